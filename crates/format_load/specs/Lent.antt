-- A format's run, and a slice that is lent, handed to a function.
-- Assumes nothing.
use Rattle.std.specs.Prelude.{◌≡◌, List, ℕ, Result, Ok, Err}
use denote.Ref.{MutBor}
use denote.Param.Members.{Shared}
use Rattle.format_grammar.specs.Check.{refused, outcome}
use Rattle.format_items.specs.declared.FormatRefusal.{FormatRefusal}
use Rattle.format_words.specs.declared.run.Run.{Run}
use Rattle.format_load.specs.Loaded.{RunHeld}

module _ {F T R : Type 0} (g : Shared F (Run × (MutBor (List T) × Unit {0})) (R × (MutBor (List T) × Unit {0}))) (f : F) where
  -- f may be called with any run, and a `&mut` to xs
  abbrev pub TakesRuns : List T → Type 0
  TakesRuns xs = (run : Run) (p : MutBor (List T)) → p.now ≡ xs → g.pre f (run, (p, tt))

  -- a call of f with a run of the format, and a `&mut` to what was there before, may answer r and leave what is there after
  pub record Answered (format : List ℕ) (before : List T) (r : R) (after : List T) : Type 0 where
    pub run : Run
    pub held : RunHeld format run
    pub shown : MutBor (List T)
    pub shows : shown.now ≡ before
    pub left : MutBor (List T)
    pub met : g.post f (run, (shown, tt)) (r, (left, tt))
    pub leaves : left.now ≡ after

  -- such an answer; or the refusal of the format, and nothing is changed
  abbrev pub UnderFormat : List ℕ → List T → Result R FormatRefusal → List T → Type 0
  UnderFormat format before (Ok r) after = Answered format before r after
  UnderFormat format before (Err why) after = (outcome format ≡ refused why) × (after ≡ before)
