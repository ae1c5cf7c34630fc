-- What a run of the program has read and written, over the bytes that its reader has left and its writer holds, where these are known.
-- Assumes nothing.
use Rattle.std.specs.Prelude.{ℕ, List, take, IfSome}
use Rattle.std.specs.declared.option.Option.{Option}
use Rattle.std.specs.Io.KnownBytes.{Appends, Consumes, Keeps}
use Rattle.sheet_text.specs.SheetOutput.{sheet_output}
use Rattle.streams.specs.Beginnings.{AppendsBeginning}
use Rattle.trimsheet.specs.declared.failure.Failure.{Failure}

-- the first `most` bytes of the input were taken, or all, and the output for the whole input was written
abbrev pub Answered : ℕ → Option (List ℕ) → Option (List ℕ) → Option (List ℕ) → Option (List ℕ) → Type 0
Answered most input left old new = IfSome input (λ whole. Consumes input left (take most whole) × Appends old new (sheet_output whole))

-- where a read failed, nothing was written; where a write failed, as much of the input was taken, and a beginning of its output was written
abbrev pub Failed : Failure → ℕ → Option (List ℕ) → Option (List ℕ) → Option (List ℕ) → Option (List ℕ) → Type 0
Failed (Failure.Read why) most input left old new = Keeps old new
Failed (Failure.Write why) most input left old new =
    IfSome input (λ whole. Consumes input left (take most whole) × AppendsBeginning old new (sheet_output whole))
