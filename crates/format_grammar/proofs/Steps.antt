-- Each byte keeps what the state says of the text up to it.
-- Assumes nothing.
use mathlib.Core.Path.{◌≡◌, refl, sym, ap}
use mathlib.Core.Bool.{Bool, true, false, ◌&&◌, ◌||◌}
use mathlib.Core.List.{List, []}
use Prim.Native.Nat.{ℕ, ◌+◌, ◌-◌, ◌*◌, ◌<◌, ◌≤◌}
use native.Mathlib.Omega.{arith}
use borrow.Author.Tests.{eqb-true, eqb-false, ltb-true}
use lib.Dec.{ltb, eqb}
use lib.ListN.{length, get_or}
use Rattle.buffer.specs.Characters.{is_printable, decimal_point, letter_i, letter_f, letter_l, letter_a, letter_t}
use Rattle.number.specs.Digits.{is_digit}
use Rattle.number.proofs.DigitLaws.{value_none, digit_bounds}
use Rattle.format_grammar.specs.Characters.{opening_bracket, slash_sign, apostrophe, quotation_mark, closing_bracket, comma, letter_x, letter_p, letter_s}
use Rattle.format_items.specs.Items.{number, Repeat, Items, join}
use Rattle.format_grammar.specs.Grammar.{At, NumberAt, RepeatAt, FieldAt, SettingAt, Mark, doubled, Nonterminal, Derives}
use Rattle.format_grammar.specs.Reading.{Use, Mode, Open, State, step, step_within, written, separated, only_absent, skipped, opened, begun, pointed, used, lettered, close, is_empty}
use Rattle.format_grammar.proofs.ReadLaws.{two}
use Rattle.format_grammar.proofs.PartLaws.{part_none, value_more, digits_more}
use Rattle.format_grammar.proofs.Cases.{pick_cases, is_mark}
use Rattle.format_grammar.proofs.LiteralSteps.{plain_at, doubled_at, literal_at}
use Rattle.format_grammar.proofs.Reached.{Before, Bracket, Begun, UsedAt, DigitsAt, InsideAt, Reached}
use Rattle.std.proofs.lemmas.Bool.{and_parts}

-- the byte at an offset is the one it was found to be
found : {s : List ℕ} {at : ℕ} (c : ℕ) → at < length s → eqb (get_or s at 0) c ≡ true → At s at c
found {s} {at} c h e = record { within = h; is = eqb-true (get_or s at 0) c e }

-- ---- numbers

no_digits : (s : List ℕ) (at : ℕ) → at ≤ length s → DigitsAt s at 0 at
no_digits s at h = record { low = omega arith; few = omega arith; within = h; digits = rw (part_none s at) tt; is = rw (part_none s at) (sym value_none) }

one_digit : {s : List ℕ} {o v at : ℕ} → DigitsAt s o v at → at < length s → (ltb at (o + 3) && is_digit (get_or s at 0)) ≡ true → DigitsAt s o (v * 10 + (get_or s at 0 - 48)) (at + 1)
one_digit {s} {o} {v} {at} d h e =
    let t = and_parts (ltb at (o + 3)) (is_digit (get_or s at 0)) e in
    let b = digit_bounds (get_or s at 0) t.1 in
    record {
      low = omega arith;
      few = omega (arith, ltb-true at (o + 3) t.0);
      within = omega arith;
      digits = digits_more s o at d.low h d.digits b.0 b.1;
      is = rw d.is (sym (value_more s o at d.low h));
    }

-- digits are a number, or none
written_at : {s : List ℕ} {o v at : ℕ} → DigitsAt s o v at → RepeatAt s o (written o at v) at
written_at {s} {o} {v} {at} d = go (eqb at o) refl
  where
    go : (t : Bool) → eqb at o ≡ t → RepeatAt s o (written o at v) at
    go true e = rw (e, eqb-true at o e) RepeatAt.absent
    go false e =
        let n : NumberAt s o (number o v) at = record { some = omega (arith, eqb-false at o e); few = d.few; within = d.within; digits = d.digits; is = ap (number o) d.is } in
        rw e (RepeatAt.given n)

-- ---- items and brackets

-- one more item in the bracket
one_more : {s : List ℕ} {l a b c : ℕ} {xs x : Items} → Before s l a xs b → Derives s Nonterminal.item l b x c → Derives s Nonterminal.items l a (join xs x) c
unfolding join
one_more Before.none i = Derives.one i
one_more (Before.some seq at) i = Derives.more seq at i

item_after : {s : List ℕ} {l a b : ℕ} {xs x : Items} {q : Open} → Begun s l xs q a → Derives s Nonterminal.item l a x b → Reached s b (State.within Mode.after l (join xs x) q)
item_after g i = Reached.after g.bracket (one_more g.before i)

-- the bracket closes
reached_close : {s : List ℕ} {l a at : ℕ} {xs : Items} {q : Open} → Bracket s l a q → Derives s Nonterminal.items l a xs at → At s at closing_bracket → Reached s (at + 1) (close l xs q)
reached_close (Bracket.format opens) seq closes = Reached.end opens seq closes
reached_close (Bracket.group bracket before rep opens) seq closes = item_after (record { bracket_end = _; bracket = bracket; before = before }) (Derives.group rep opens seq closes)

-- a number may begin at the next offset
number_next : {s : List ℕ} {l a at : ℕ} {u : Use} {xs : Items} {q : Open} → at < length s → Begun s l xs q a → UsedAt s a u (at + 1) → Reached s (at + 1) (State.within (Mode.digits u (at + 1) 0) l xs q)
number_next {s} {at} h g u = Reached.digits g u (no_digits s (at + 1) (omega arith))

-- the byte after an item
reached_separated : {s : List ℕ} {l a at : ℕ} {xs : Items} {q : Open} → at < length s → Bracket s l a q → Derives s Nonterminal.items l a xs at → Reached s (at + 1) (separated at l xs q (get_or s at 0))
reached_separated {s} {l} {a} {at} {xs} {q} h bracket seq =
    pick_cases (λ st. Reached s (at + 1) st) (eqb (get_or s at 0) comma) _ _
    (λ e. number_next h (record { bracket_end = a; bracket = bracket; before = Before.some seq (found comma h e) }) UsedAt.start)
    (λ _. pick_cases (λ st. Reached s (at + 1) st) (eqb (get_or s at 0) closing_bracket) _ _ (λ e. reached_close bracket seq (found closing_bracket h e)) (λ _. Reached.dead))

item_separated : {s : List ℕ} {l a at : ℕ} {xs x : Items} {q : Open} → at < length s → Begun s l xs q a → Derives s Nonterminal.item l a x at → Reached s (at + 1) (separated at l (join xs x) q (get_or s at 0))
item_separated h g i = reached_separated h g.bracket (one_more g.before i)

-- ---- the byte after the number with which an item begins

reached_opened : {s : List ℕ} {l a at : ℕ} {r : Repeat} {xs : Items} {q : Open} → Begun s l xs q a → RepeatAt s a r at → At s at opening_bracket → Reached s (at + 1) (opened r at l xs q)
reached_opened {s} {l} {a} {at} {r} {xs} {q} g rep here =
    pick_cases (λ st. Reached s (at + 1) st) (eqb l 0) _ _ (λ _. Reached.dead)
    (λ e. let k : l ≡ l - 1 + 1 = omega (arith, eqb-false l 0 e) in
    number_next here.within
    (record { bracket_end = at + 1; bracket = Bracket.group (rw k at g.bracket) (rw k at g.before) rep here; before = Before.none })
    UsedAt.start)

reached_skipped : {s : List ℕ} {l a at : ℕ} {r : Repeat} {xs : Items} {q : Open} → Begun s l xs q a → RepeatAt s a r at → At s at letter_x → Reached s (at + 1) (skipped r l xs q)
reached_skipped g RepeatAt.absent here = Reached.dead
reached_skipped g (RepeatAt.given n) here = item_after g (Derives.X n here)

reached_column : {s : List ℕ} {l a at : ℕ} {r : Repeat} {xs : Items} {q : Open} → Begun s l xs q a → RepeatAt s a r at → At s at letter_t
    → Reached s (at + 1) (only_absent r (State.within (Mode.digits Use.column (at + 1) 0) l xs q))
reached_column g RepeatAt.absent here = number_next here.within g (UsedAt.column here)
reached_column g (RepeatAt.given n) here = Reached.dead

reached_marked : {s : List ℕ} {l a at m : ℕ} {r : Repeat} {xs : Items} {q : Open} → Begun s l xs q a → RepeatAt s a r at → Mark m → At s at m
    → Reached s (at + 1) (only_absent r (State.within (Mode.inside m []) l xs q))
unfolding doubled
reached_marked {s} {at} {m} g RepeatAt.absent mk here =
    let k : InsideAt s at m [] (at + 1) = record { low = omega arith; mark = mk; opens = here; between = part_none s (at + 1); printable = tt } in
    Reached.inside g k
reached_marked g (RepeatAt.given n) mk here = Reached.dead

reached_letter : {s : List ℕ} {l a at : ℕ} {r : Repeat} {xs : Items} {q : Open} → Begun s l xs q a → RepeatAt s a r at → At s at letter_s
    → Reached s (at + 1) (only_absent r (State.within Mode.letter l xs q))
reached_letter g RepeatAt.absent here = Reached.letter g here
reached_letter g (RepeatAt.given n) here = Reached.dead

reached_begun : {s : List ℕ} {l a at : ℕ} {r : Repeat} {xs : Items} {q : Open} → at < length s → Begun s l xs q a → RepeatAt s a r at → Reached s (at + 1) (begun r at l xs q (get_or s at 0))
reached_begun {s} {l} {a} {at} {r} {xs} {q} h g rep =
    let P : State → Type 0 = λ st. Reached s (at + 1) st in
    let b : ℕ = get_or s at 0 in
    pick_cases P (eqb b letter_i) _ _ (λ e. number_next h g (UsedAt.width_i rep (found letter_i h e)))
    (λ _. pick_cases P (eqb b letter_f) _ _ (λ e. number_next h g (UsedAt.width_f rep (found letter_f h e)))
    (λ _. pick_cases P (eqb b letter_l) _ _ (λ e. number_next h g (UsedAt.width_l rep (found letter_l h e)))
    (λ _. pick_cases P (eqb b letter_a) _ _ (λ e. number_next h g (UsedAt.width_a rep (found letter_a h e)))
    (λ _. pick_cases P (eqb b opening_bracket) _ _ (λ e. reached_opened g rep (found opening_bracket h e))
    (λ _. pick_cases P (eqb b letter_x) _ _ (λ e. reached_skipped g rep (found letter_x h e))
    (λ _. pick_cases P (eqb b letter_t) _ _ (λ e. reached_column g rep (found letter_t h e))
    (λ _. pick_cases P (eqb b slash_sign) _ _ (λ e. item_after g (Derives.slash rep (found slash_sign h e)))
    (λ _. pick_cases P (eqb b letter_s) _ _ (λ e. reached_letter g rep (found letter_s h e))
    (λ _. pick_cases P (eqb b apostrophe || eqb b quotation_mark) _ _ (λ e. reached_marked g rep (is_mark b e) (record { within = h; is = refl }))
    (λ _. Reached.dead))))))))))

-- ---- the byte after a number

reached_pointed : {s : List ℕ} {l a o at : ℕ} {r n : Repeat} {xs : Items} {q : Open} → Begun s l xs q a → RepeatAt s a r o → At s o letter_f → RepeatAt s (o + 1) n at → At s at decimal_point
    → Reached s (at + 1) (pointed r n at l xs q)
reached_pointed g rep f RepeatAt.absent here = Reached.dead
reached_pointed g rep f (RepeatAt.given w) here = number_next here.within g (UsedAt.places rep f w here)

reached_used : {s : List ℕ} {l a o at : ℕ} {u : Use} {n : Repeat} {xs : Items} {q : Open} → at < length s → Begun s l xs q a → UsedAt s a u o → RepeatAt s o n at
    → Reached s (at + 1) (used u n at l xs q (get_or s at 0))
reached_used h g UsedAt.start n = reached_begun h g n
reached_used h g (UsedAt.width_i rep k) RepeatAt.absent = Reached.dead
reached_used h g (UsedAt.width_i rep k) (RepeatAt.given w) = item_separated h g (Derives.field rep (FieldAt.I k w))
reached_used {s} {at} h g (UsedAt.width_f rep k) n =
    pick_cases (λ st. Reached s (at + 1) st) (eqb (get_or s at 0) decimal_point) _ _ (λ e. reached_pointed g rep k n (found decimal_point h e)) (λ _. Reached.dead)
reached_used h g (UsedAt.width_l rep k) RepeatAt.absent = Reached.dead
reached_used h g (UsedAt.width_l rep k) (RepeatAt.given w) = item_separated h g (Derives.field rep (FieldAt.L k w))
reached_used h g (UsedAt.width_a rep k) RepeatAt.absent = item_separated h g (Derives.field rep (FieldAt.A k))
reached_used h g (UsedAt.width_a rep k) (RepeatAt.given w) = item_separated h g (Derives.field rep (FieldAt.Aw k w))
reached_used h g (UsedAt.places rep k w p) RepeatAt.absent = Reached.dead
reached_used h g (UsedAt.places rep k w p) (RepeatAt.given d) = item_separated h g (Derives.field rep (FieldAt.F k w p d))
reached_used h g (UsedAt.column k) RepeatAt.absent = Reached.dead
reached_used h g (UsedAt.column k) (RepeatAt.given n) = item_separated h g (Derives.T k n)

-- ---- the byte after an S

reached_lettered : {s : List ℕ} {l a : ℕ} {xs : Items} {q : Open} → a + 1 < length s → Begun s l xs q a → At s a letter_s → Reached s (a + 1 + 1) (lettered (a + 1) l xs q (get_or s (a + 1) 0))
reached_lettered {s} {l} {a} h g here =
    let P : State → Type 0 = λ st. Reached s (a + 1 + 1) st in
    let b : ℕ = get_or s (a + 1) 0 in
    pick_cases P (eqb b letter_p) _ _ (λ e. rw (two a) at (item_after g (Derives.setting (SettingAt.SP here (found letter_p h e)))))
    (λ _. pick_cases P (eqb b letter_s) _ _ (λ e. rw (two a) at (item_after g (Derives.setting (SettingAt.SS here (found letter_s h e)))))
    (λ _. item_separated h g (Derives.setting (SettingAt.S here))))

-- ---- one byte

pub reached_step : {s : List ℕ} {at : ℕ} {st : State} → at < length s → Reached s at st → Reached s (at + 1) (step at st (get_or s at 0))
unfolding step step_within
reached_step {s} h Reached.begin =
    pick_cases (λ st. Reached s 1 st) (eqb (get_or s 0 0) opening_bracket) _ _
    (λ e. number_next h (record { bracket_end = 1; bracket = Bracket.format (found opening_bracket h e); before = Before.none }) UsedAt.start)
    (λ _. Reached.dead)
reached_step {s} h (Reached.digits {o} {at} g u d) =
    pick_cases (λ st. Reached s (at + 1) st) (ltb at (o + 3) && is_digit (get_or s at 0)) _ _
    (λ e. Reached.digits g u (one_digit d h e))
    (λ _. reached_used h g u (written_at d))
reached_step {s} h (Reached.inside {m} {at} {cs} g k) =
    let b : ℕ = get_or s at 0 in
    pick_cases (λ st. Reached s (at + 1) st) (eqb b m) _ _
    (λ e. Reached.mark g k (found m h e))
    (λ d. pick_cases (λ st. Reached s (at + 1) st) (is_printable b) _ _ (λ e. Reached.inside g (plain_at k h d e)) (λ _. Reached.dead))
reached_step {s} h (Reached.mark {m} {l} {a} {b} {cs} {xs} {q} g k here) =
    pick_cases (λ st. Reached s (b + 1 + 1) st) (eqb (get_or s (b + 1) 0) m) _ _
    (λ e. rw (eqb-true (get_or s (b + 1) 0) m e) (Reached.inside g (doubled_at k here (found m h e))))
    (λ _. pick_cases (λ st. Reached s (b + 1 + 1) st) (is_empty cs) _ _ (λ _. Reached.dead) (λ e. item_separated h g (Derives.literal (literal_at k here e))))
reached_step h (Reached.letter g here) = reached_lettered h g here
reached_step h (Reached.after bracket seq) = reached_separated h bracket seq
reached_step h (Reached.end opens seq closes) = Reached.dead
reached_step h Reached.dead = Reached.dead
