-- The theorems on formats that specs/Promises.antt states.
-- Assumes nothing.
use mathlib.Core.Path.{◌≡◌, refl, ◌∙◌, subst}
use mathlib.Core.Bool.{Bool, true, false, cond}
use mathlib.Core.List.{List}
use Prim.Native.Nat.{ℕ, ◌<◌, ◌≤◌}
use native.Mathlib.Omega.{arith}
use borrow.Author.Tests.{lt-ltb, le-ltb, ltb-true, ltb-false}
use lib.Dec.{ltb}
use lib.ListN.{length}
use Rattle.std.specs.Prelude.{Option, Some, None}
use Rattle.format_items.specs.Items.{Items}
use Rattle.format_grammar.specs.Grammar.{Format}
use Rattle.format_items.specs.Ranges.{numbers, first_outside, AllWithin}
use Rattle.format_items.specs.Size.{size, largest_size}
use Rattle.format_grammar.specs.Reading.{Reading, items, wrong, reading}
use Rattle.format_grammar.specs.Check.{Outcome, accepted, refused, check_size, check_range, check_grammar, outcome, outcome_number, outcome_place}
use Rattle.format_items.specs.Refusals.{longest_format, refusal_number, refusal_place}
use Rattle.format_items.specs.declared.FormatRefusal.{FormatRefusal}
use Rattle.format_items.specs.declared.FormatRefusal.TheVariants.{Length, Grammar, Range, Size}
use Rattle.format_grammar.specs.Promises.{Answers, Acceptable, TooLong, NotGrammatical, OutOfRange, TooLarge, AnsweredBy, AcceptsExactly, OneReading, LengthRefused, GrammarRefused, RangeRefused, SizeRefused, AlwaysAnswered, NumbersInOrder, MetInRange}
use Rattle.format_grammar.proofs.Complete.{complete}
use Rattle.format_grammar.proofs.Sound.{sound}
use Rattle.format_grammar.proofs.Place.{place_is, one_place}
use Rattle.format_items.proofs.RangeLaws.{none_outside, all_within, at_first, first_at}
use Rattle.format_grammar.proofs.NumberOrder
use Rattle.format_grammar.proofs.MetRanges

pub one_reading : OneReading
one_reading s xs ys f g = let a = complete f in let b = complete g in cc

pub numbers_in_order : NumbersInOrder
numbers_in_order = NumberOrder.numbers_in_order

pub met_in_range : MetInRange
met_in_range = MetRanges.met_in_range

-- ---- what the outcome says of the text

pub data Said (s : List ℕ) : Outcome → Type 0 where
  too_long : TooLong s 1024 → Said s (refused Length)
  not_grammatical : {p : ℕ} → NotGrammatical s p → Said s (refused (Grammar p))
  out_of_range : {p : ℕ} → OutOfRange s p → Said s (refused (Range p))
  too_large : TooLarge s 0 → Said s (refused Size)
  acceptable : {xs : Items} → Acceptable s xs → Said s (accepted xs)

wrong_items : (s : List ℕ) (p : ℕ) (xs : Items) → reading s ≡ wrong p → Format s xs → ⊥
wrong_items s p xs e f = let g = complete f in let z : ◌≡◌ {A = ℕ} 0 1 = cc in omega arith

said_size : (s : List ℕ) (xs : Items) → length s ≤ longest_format → Format s xs → AllWithin (numbers xs) → Said s (check_size xs)
said_size s xs h f r = go (ltb largest_size (size xs)) refl
  where
    go : (t : Bool) → ltb largest_size (size xs) ≡ t → Said s (cond t (refused Size) (accepted xs))
    go true e = Said.too_large (record { short = h; read = xs; format = f; ranges = r; large = ltb-true largest_size (size xs) e; place_is = refl })
    go false e = Said.acceptable (record { short = h; format = f; ranges = r; small = ltb-false largest_size (size xs) e })

said_range : (s : List ℕ) (xs : Items) → length s ≤ longest_format → Format s xs → Said s (check_range (first_outside (numbers xs)) xs)
said_range s xs h f = go (first_outside (numbers xs)) refl
  where
    go : (o : Option ℕ) → first_outside (numbers xs) ≡ o → Said s (check_range o xs)
    go None e = said_size s xs h f (all_within (numbers xs) e)
    go (Some p) e = Said.out_of_range (record { short = h; read = xs; format = f; place_is = at_first (numbers xs) p e })

said_grammar : (s : List ℕ) → length s ≤ longest_format → Said s (check_grammar (reading s))
said_grammar s h = go (reading s) refl
  where
    go : (o : Reading) → reading s ≡ o → Said s (check_grammar o)
    go (wrong p) e = Said.not_grammatical (record { short = h; not_format = λ xs. wrong_items s p xs e; place_is = place_is s p e })
    go (items xs) e = said_range s xs h (sound s xs e)

pub said : (s : List ℕ) → Said s (outcome s)
unfolding outcome
said s = go (ltb longest_format (length s)) refl
  where
    go : (t : Bool) → ltb longest_format (length s) ≡ t → Said s (cond t (refused Length) (check_grammar (reading s)))
    go true e = Said.too_long (record { long = ltb-true longest_format (length s) e; place_is = refl })
    go false e = said_grammar s (ltb-false longest_format (length s) e)

-- ---- the outcome, from what is known of the text

pub outcome_short : (s : List ℕ) → length s ≤ longest_format → outcome s ≡ check_grammar (reading s)
unfolding outcome
outcome_short s h = rw (le-ltb longest_format (length s) h)

pub outcome_long : (s : List ℕ) → longest_format < length s → outcome s ≡ refused Length
unfolding outcome
outcome_long s h = rw (lt-ltb longest_format (length s) h)

outcome_read : (s : List ℕ) (xs : Items) → length s ≤ longest_format → Format s xs → outcome s ≡ check_range (first_outside (numbers xs)) xs
outcome_read s xs h f = outcome_short s h ∙ rw (complete f)

outcome_ranged : (s : List ℕ) (xs : Items) → length s ≤ longest_format → Format s xs → AllWithin (numbers xs) → outcome s ≡ check_size xs
outcome_ranged s xs h f r = outcome_read s xs h f ∙ rw (none_outside (numbers xs) r)

pub always_answered : AlwaysAnswered
always_answered s = go (said s)
  where
    go : {o : Outcome} → Said s o → AnsweredBy s (outcome_number o) (outcome_place o)
    go (Said.too_long h) = AnsweredBy.too_long h
    go (Said.not_grammatical h) = AnsweredBy.not_grammatical h
    go (Said.out_of_range h) = AnsweredBy.out_of_range h
    go (Said.too_large h) = AnsweredBy.too_large h
    go (Said.acceptable h) = AnsweredBy.acceptable h

-- ---- the rows: a verdict by its number

pub accepts_exactly : AcceptsExactly
accepts_exactly s xs = (λ e. go (rw e at (said s)), λ h. outcome_ranged s xs h.short h.format h.ranges ∙ rw (le-ltb largest_size (size xs) h.small))
  where
    go : {xs : Items} → Said s (accepted xs) → Acceptable s xs
    go (Said.acceptable h) = h

answered : (s : List ℕ) (n p : ℕ) → Answers s n p → AnsweredBy s n p
answered s n p a = subst (λ (q : ℕ). AnsweredBy s n q) a.place_is (subst (λ (m : ℕ). AnsweredBy s m (outcome_place (outcome s))) a.number_is (always_answered s))

answers : (s : List ℕ) (w : FormatRefusal) → outcome s ≡ refused w → Answers s (refusal_number w) (refusal_place w)
answers s w e = record { number_is = rw e; place_is = rw e }

pub length_refused : LengthRefused
length_refused s p = (λ a. go (answered s 2 p a), λ h. rw h.place_is (answers s Length (outcome_long s h.long)))
  where
    go : AnsweredBy s 2 p → TooLong s p
    go (AnsweredBy.too_long h) = h

pub grammar_refused : GrammarRefused
grammar_refused s p = (λ a. go (answered s 3 p a), λ h. answers s (Grammar p) (outcome_short s h.short ∙ back h (reading s) refl))
  where
    go : AnsweredBy s 3 p → NotGrammatical s p
    go (AnsweredBy.not_grammatical h) = h

    back : NotGrammatical s p → (o : Reading) → reading s ≡ o → check_grammar (reading s) ≡ refused (Grammar p)
    back h (items xs) e = absurd (h.not_format xs (sound s xs e))
    back h (wrong q) e = rw (e, one_place s q p (place_is s q e) h.place_is)

pub range_refused : RangeRefused
range_refused s p =
    (λ a. go (answered s 4 p a), λ h. answers s (Range p) (outcome_read s h.read h.short h.format ∙ rw (first_at (numbers h.read) p h.place_is)))
  where
    go : AnsweredBy s 4 p → OutOfRange s p
    go (AnsweredBy.out_of_range h) = h

pub size_refused : SizeRefused
size_refused s p =
    (λ a. go (answered s 5 p a), λ h. rw h.place_is (answers s Size (outcome_ranged s h.read h.short h.format h.ranges ∙ rw (lt-ltb largest_size (size h.read) h.large))))
  where
    go : AnsweredBy s 5 p → TooLarge s p
    go (AnsweredBy.too_large h) = h
