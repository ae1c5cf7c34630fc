-- The row of the format check that is met answers.
-- Assumes nothing.
use mathlib.Core.Path.{◌≡◌, ap}
use mathlib.Core.List.{List}
use Prim.Native.Nat.{ℕ}
use native.Mathlib.Omega.{arith}
use Rattle.format_grammar.specs.Check.{outcome_number, outcome_place}
use Rattle.format_items.specs.Refusals.{refusal_number}
use Rattle.format_items.specs.declared.FormatRefusal.{FormatRefusal}
use Rattle.format_items.specs.declared.FormatRefusal.TheVariants.{Length, Grammar, Range, Size}
use Rattle.format_grammar.specs.Promises.{Answers, AnsweredBy}
use Rattle.format_grammar.proofs.Promises.{accepts_exactly, length_refused, grammar_refused, range_refused, size_refused}

-- a refusal has a number
pub numbered : (why : FormatRefusal) → refusal_number why ≡ 0 → ⊥
numbered Length e = omega arith
numbered (Grammar p) e = omega arith
numbered (Range p) e = omega arith
numbered Size e = omega arith

-- what answers has the outcome's number and place
pub answered_only : (s : List ℕ) {k p : ℕ} → AnsweredBy s k p → Answers s k p
answered_only s (AnsweredBy.acceptable {xs} h) =
    let e = (accepts_exactly s xs).1 h in
    record { number_is = ap outcome_number e; place_is = ap outcome_place e }
answered_only s (AnsweredBy.too_long {p} h) = (length_refused s p).1 h
answered_only s (AnsweredBy.not_grammatical {p} h) = (grammar_refused s p).1 h
answered_only s (AnsweredBy.out_of_range {p} h) = (range_refused s p).1 h
answered_only s (AnsweredBy.too_large {p} h) = (size_refused s p).1 h
