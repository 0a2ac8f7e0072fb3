-- What dayplan does with an input and an output.
use Rattle.std.specs.Prelude.{ℕ, List, Option, Result, MatchResult}
use Rattle.std.specs.Io.KnownBytes.{Appends, Keeps}
use Rattle.reply.specs.declared.reply.Replied.{Replied}
use Rattle.reply.specs.Replies.{Text}
use Rattle.console.specs.declared.fault.StreamFault.{StreamFault}
use Rattle.console.specs.declared.fault.StreamFault.TheVariants.{Input, Output}
use Rattle.console.specs.Streams.{input_limit, ReadsFirst, ReadsSome, WritesSome}

-- the front of the input is read, and it is a file with this text
abbrev pub Given : Option (List ℕ) → Option (List ℕ) → List ℕ → Replied → Type 0
Given left left' text told =
    (file : List ℕ) × ReadsFirst input_limit left left' file × Text file text told

module _ (left left' held held' : Option (List ℕ)) where
  -- the text for the input is written, all of it and once
  abbrev pub Answers : Replied → Type 0
  Answers told = (text : List ℕ) × Given left left' text told × Appends held held' text

  -- where reading fails nothing is written; where writing fails, a front of the text
  abbrev pub Fails : StreamFault → Type 0
  Fails (Input e) = ReadsSome left left' × Keeps held held'
  Fails (Output e) =
      (text : List ℕ) × (told : Replied) × Given left left' text told × WritesSome held held' text

  abbrev pub Runs : Result Replied StreamFault → Type 0
  Runs r = MatchResult r Answers Fails
