-- The loop over the lines of a list text.
-- Assumes nothing.
use mathlib.Core.Path.{◌≡◌, refl, sym, ap, ◌∙◌}
use mathlib.Core.Bool.{Bool, true, false}
use mathlib.Core.List.{List, [], ◌∷◌, ◌++◌, append_assoc, append-nil}
use Prim.Native.Nat.{ℕ, suc, ◌+◌, ◌<◌, ◌≤◌}
use native.Mathlib.Nat.{add-zero}
use native.Mathlib.Numerals.{add-one}
use native.Mathlib.Omega.{arith}
use native.Mathlib.Decide.{dec_lt}
use borrow.Author.Tests.{lt-ltb, le-ltb}
use lib.ListN.{length, get_or, take, drop, set, length-drop, drop_of_length-le}
use lib.Seq.{take_all, take-suc, take-take, get_or-take, get_or-drop, drop-drop, split_at, length-take-le}
use Rattle.std.specs.Prelude.{Result, Ok, Err}
use Rattle.std.specs.Result.{result_unwrap_or}
use Rattle.list_elements.specs.Elements.{zero_value, empty_list, most_elements}
use Rattle.list_elements.specs.Limits.{good, bad, within_limits, first_failing, check_values, check_number, check_place}
use Rattle.list_elements.specs.Contents.{element_of, list_of}
use Rattle.list_elements.specs.declared.BadElement.{BadElement}
use Rattle.list_elements.specs.declared.Value.{Value}
use Rattle.list_elements.specs.declared.Element.{Element}
use Rattle.list_elements.specs.declared.List as carried
use Rattle.list_elements.proofs.Placing.{Placing, placing_none, placing_more, placing_list}
use Rattle.list_text.specs.Lines.{first_line, after_line, lines}
use Rattle.list_text.specs.ElementLines.{element_on}
use Rattle.list_text.specs.ListText.{elements_from, line_values, line_check, line_read, line_list}
use Rattle.list_text.proofs.LineLaws.{after_is, lines_are}

-- ---- what is left of a list of values

module _ (vs : List Value) (n : ℕ) {v : Value} {xs : List Value} (e : drop n vs ≡ v ∷ xs) where
  left_some : n < length vs
  left_some =
      elim (dec_lt n (length vs)) [
        | yes h ↦ h
        | no h ↦ let f : ◌≡◌ {A = List Value} [] (v ∷ xs) = sym (drop_of_length-le vs {i = n} (omega arith)) ∙ e in absurd (let z : ◌≡◌ {A = ℕ} 0 1 = cc in omega arith)
      ]

  left_first : v ≡ get_or vs n zero_value
  left_first = ap (λ (l : List Value). get_or l 0 zero_value) (sym e) ∙ get_or-drop n vs 0 zero_value ∙ ap (λ (i : ℕ). get_or vs i zero_value) (add-zero n)

  left_rest : drop (n + 1) vs ≡ xs
  left_rest = sym (drop-drop 1 n vs) ∙ ap (λ (l : List Value). drop 1 l) e

left_none : (vs : List Value) (n : ℕ) → drop n vs ≡ [] → length vs ≤ n
left_none vs n e = omega (arith, length-drop n vs, ap length e)

-- ---- the check: the first n values pass the test

pub record Passed (test : Value → Bool) (vs : List Value) (n : ℕ) : Type 0 where
  pub before : (ys : List Value) → first_failing test 0 (take n vs ++ ys) ≡ first_failing test n ys

module _ {test : Value → Bool} {vs : List Value} {n : ℕ} (p : Passed test vs n) where
  passed_good : first_failing test 0 (take n vs) ≡ good
  unfolding first_failing
  passed_good = ap (first_failing test 0) (sym (append-nil (take n vs))) ∙ p.before []

  passed_more : n < length vs → test (get_or vs n zero_value) ≡ true → Passed test vs (n + 1)
  unfolding first_failing
  passed_more h t =
      record {
        before = λ ys. ap (first_failing test 0) (ap (λ (l : List Value). l ++ ys) (ap (λ (i : ℕ). take i vs) (add-one n) ∙ take-suc vs n zero_value h) ∙ append_assoc (take n vs) (get_or vs n zero_value ∷ []) ys)
            ∙ p.before (get_or vs n zero_value ∷ ys) ∙ rw t;
      }

  passed_bad : (most : ℕ) → n < length vs → n < most → test (get_or vs n zero_value) ≡ false → first_failing test 0 (take most vs) ≡ bad n
  unfolding first_failing
  passed_bad most h l t =
      let m : n < length (take most vs) = short in
      let e : take most vs ≡ take n vs ++ (get_or vs n zero_value ∷ drop (suc n) (take most vs)) =
      split_at (take most vs) n zero_value m ∙ rw (take-take n most vs (omega arith), get_or-take most vs n zero_value l) in
      ap (first_failing test 0) e
      ∙ p.before (get_or vs n zero_value ∷ drop (suc n) (take most vs)) ∙ rw t
    where
      short : n < length (take most vs)
      short = elim (dec_lt (length vs) most) [ yes g ↦ rw (take_all most vs (omega arith)) h | no g ↦ rw (length-take-le most vs (omega arith)) l ]

-- ---- the loop: n lines were read, the next starts at `at`

pub record Reading (s : List ℕ) (es : List Element) (n at : ℕ) : Type 0 where
  pub few : n ≤ most_elements
  pub bound : n ≤ length (line_values s)
  pub passed : Passed (within_limits s) (line_values s) n
  pub placed : Placing (line_values s) es n
  pub left : drop n (line_values s) ≡ elements_from at (lines (drop at s))

pub reading_none : (s : List ℕ) → Reading s empty_list.elements 0 0
unfolding line_values
reading_none s = record { few = omega arith; bound = omega arith; passed = record { before = λ ys. refl }; placed = placing_none; left = refl }

module _ {s : List ℕ} {es : List Element} {n at : ℕ} (r : Reading s es n at) where
  module _ (h : at < length s) where
    abbrev next : Value
    next = element_on at (first_line (drop at s))

    next_left : drop n (line_values s) ≡ next ∷ elements_from (at + length (first_line (drop at s)) + 1) (lines (after_line (drop at s)))
    unfolding elements_from
    next_left = r.left ∙ rw (lines_are (drop at s) (rw length-drop (omega arith)))

    pub reading_over : n ≡ most_elements → bad n ≡ line_check s
    unfolding line_check check_values
    reading_over e =
        let l : most_elements < length (line_values s) = omega (arith, left_some (line_values s) n next_left) in
        rw (← e) (rw (passed_good r.passed) (rw e (rw (lt-ltb most_elements (length (line_values s)) l))))

    pub reading_bad : (n ≡ most_elements → ⊥) → within_limits s next ≡ false → bad n ≡ line_check s
    unfolding line_check check_values
    reading_bad m t =
        let g : within_limits s (get_or (line_values s) n zero_value) ≡ false = rw (left_first (line_values s) n next_left) at t in
        rw (passed_bad r.passed most_elements (left_some (line_values s) n next_left) (omega (arith, r.few)) g)

    pub reading_more : {v : Value} {line : List ℕ} → line ≡ first_line (drop at s) → v ≡ element_on at line → (n ≡ most_elements → ⊥) → within_limits s v ≡ true → Reading s (set es n (element_of v)) (n + 1) (at + (length line + 1))
    reading_more {v} {line} q e m t =
        let g : v ≡ get_or (line_values s) n zero_value = e ∙ ap (element_on at) q ∙ left_first (line_values s) n next_left in
        let i : n < length (line_values s) = left_some (line_values s) n next_left in
        let a : after_line (drop at s) ≡ drop (at + (length (first_line (drop at s)) + 1)) s = sym (after_is (drop at s)) ∙ drop-drop (length (first_line (drop at s)) + 1) at s in
        let f : at + length (first_line (drop at s)) + 1 ≡ at + (length (first_line (drop at s)) + 1) = omega arith in
        record {
          few = omega (arith, r.few);
          bound = omega arith;
          passed = passed_more r.passed i (rw g at t);
          placed = placing_more r.placed i (omega (arith, r.few)) g;
          left = left_rest (line_values s) n next_left ∙ rw (a, f, q);
        }

  module _ (h : length s ≤ at) where
    all_read : n ≡ length (line_values s)
    unfolding elements_from lines
    all_read = omega (arith, r.bound, left_none (line_values s) n (r.left ∙ rw (drop_of_length-le s h)))

    pub reading_good : good ≡ line_check s
    unfolding line_check check_values
    reading_good =
        let t : take most_elements (line_values s) ≡ take n (line_values s) = take_all most_elements (line_values s) (omega (arith, r.few, all_read)) ∙ sym (take_all n (line_values s) (omega (arith, all_read))) in
        rw (t, passed_good r.passed, le-ltb most_elements (length (line_values s)) (omega (arith, r.few, all_read)))

    pub reading_list : ◌≡◌ {A = carried.List} (record { elements = es; count = n }) (list_of (line_values s))
    reading_list = placing_list r.placed all_read

-- ---- the answer

abbrev Answered : List ℕ → Result carried.List BadElement → Type 0
Answered s r = record {
  read : r ≡ line_read s;
  list : result_unwrap_or r empty_list ≡ line_list s;
  number : check_number r ≡ check_number (line_check s);
  place : check_place r ≡ check_place (line_check s);
}

pub answered_bad : (s : List ℕ) {p : ℕ} → bad p ≡ line_check s → Answered s (Err (record { place = p }))
answered_bad s e = record { read = rw (← e); list = rw (← e); number = ap check_number e; place = ap check_place e }

pub answered_good : (s : List ℕ) {l : carried.List} → good ≡ line_check s → l ≡ list_of (line_values s) → Answered s (Ok l)
answered_good s e f = record { read = rw (← e, f); list = rw (← e) f; number = ap check_number e; place = ap check_place e }
