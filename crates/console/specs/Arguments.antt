-- What the words behind dayplan's name ask for.
use Rattle.std.specs.Prelude.{◌≡◌, ◌≢◌, List, [], ◌∷◌, ℕ, codes}
use Rattle.console.specs.declared.arguments.Request.{Request}
use Rattle.console.specs.declared.arguments.Request.TheVariants.{Plan, Help, Version, Usage}

-- no word is a plan, one of the two alone is what it says, and anything else is told how dayplan is called
pub data AsksFor (words : List (List ℕ)) (r : Request) : Type 0 where
  plan : words ≡ [] → r ≡ Plan → AsksFor words r
  help : words ≡ codes "--help" ∷ [] → r ≡ Help → AsksFor words r
  version : words ≡ codes "--version" ∷ [] → r ≡ Version → AsksFor words r
  usage : words ≢ [] → words ≢ codes "--help" ∷ [] → words ≢ codes "--version" ∷ [] → r ≡ Usage
      → AsksFor words r
