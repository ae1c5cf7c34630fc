-- The numbers of a format's items are those of its text, in order.
-- Assumes nothing.
use mathlib.Core.Path.{◌≡◌, refl, sym, subst}
use mathlib.Core.Logic.{⊎_elim}
use mathlib.Core.Bool.{false}
use mathlib.Core.List.{List, [], ◌∷◌, ◌++◌, append-nil}
use Prim.Native.Nat.{ℕ, ◌+◌}
use borrow.Author.Tests.{eqb-false}
use lib.Dec.{eqb}
use Rattle.buffer.specs.Characters.{decimal_point, letter_a, letter_f, letter_i, letter_l, letter_t}
use Rattle.number.specs.Digits.{is_digit}
use Rattle.format_grammar.specs.Characters.{quotation_mark, apostrophe, opening_bracket, closing_bracket, comma, slash_sign, letter_x, letter_p, letter_s}
use Rattle.settings.specs.declared.SettingItem.{SettingItem}
use Rattle.format_items.specs.Items.{Number, Repeat, Field, Items}
use Rattle.format_grammar.specs.Grammar.{At, NumberAt, RepeatAt, FieldAt, SettingAt, Nonterminal, Derives}
use Rattle.format_items.specs.Ranges.{Ranged, ranged, repeat_numbers, field_numbers, numbers}
use Rattle.format_grammar.specs.Promises.{NoNumber, NoDigit, InOrder, NumbersInOrder}
use Rattle.format_items.proofs.ItemLaws.{numbers_join}
use Rattle.format_grammar.proofs.ReadLaws.{two}

-- ---- one after the other

no_more : {s : List ℕ} {a b c : ℕ} → NoNumber s a b → NoNumber s b c → NoNumber s a c
no_more NoNumber.none h = h
no_more (NoNumber.byte at d m g) h = NoNumber.byte at d m (no_more g h)
no_more (NoNumber.literal l g) h = NoNumber.literal l (no_more g h)

before : {s : List ℕ} {a b c : ℕ} {ns : List Ranged} → NoNumber s a b → InOrder s b ns c → InOrder s a ns c
before g (InOrder.none h) = InOrder.none (no_more g h)
before g (InOrder.next h n d k) = InOrder.next (no_more g h) n d k

after : {s : List ℕ} {a b c : ℕ} {ns : List Ranged} → InOrder s a ns b → NoNumber s b c → InOrder s a ns c
after (InOrder.none g) h = InOrder.none (no_more g h)
after (InOrder.next g n d k) h = InOrder.next g n d (after k h)

append : {s : List ℕ} {a b c : ℕ} {ns ms : List Ranged} → InOrder s a ns b → InOrder s b ms c → InOrder s a (ns ++ ms) c
append (InOrder.none g) h = before g h
append (InOrder.next g n d k) h = InOrder.next g n d (append k h)

-- ---- bytes and numbers

nothing : {s : List ℕ} {a : ℕ} → InOrder s a [] a
nothing = InOrder.none NoNumber.none

-- a byte of the grammar that is neither a digit nor a mark
record Sign (c : ℕ) : Type 0 where
  no_digit : is_digit c ≡ false
  no_apostrophe : eqb c apostrophe ≡ false
  no_quotation_mark : eqb c quotation_mark ≡ false

plain : (c : ℕ) → is_digit c ≡ false → eqb c apostrophe ≡ false → eqb c quotation_mark ≡ false → Sign c
plain c d e f = record { no_digit = d; no_apostrophe = e; no_quotation_mark = f }

sign : {s : List ℕ} {a c : ℕ} → At s a c → Sign c → NoNumber s a (a + 1)
sign {c} at k = NoNumber.byte at k.no_digit (λ m. ⊎_elim (λ z. eqb-false c apostrophe k.no_apostrophe z) (λ z. eqb-false c quotation_mark k.no_quotation_mark z) m) NoNumber.none

stop : {s : List ℕ} {a c : ℕ} → At s a c → Sign c → NoDigit s a
stop at k h = rw at.is k.no_digit

one : {s : List ℕ} {a b : ℕ} {n : Number} {low high : ℕ} → NumberAt s a n b → NoDigit s b → InOrder s a (ranged n low high ∷ []) b
one n d = InOrder.next NoNumber.none n d nothing

-- ---- the numbers of what is derived, where no digit follows it

of_repeat : {s : List ℕ} {a b : ℕ} {r : Repeat} → RepeatAt s a r b → NoDigit s b → InOrder s a (repeat_numbers r) b
of_repeat RepeatAt.absent d = nothing
of_repeat (RepeatAt.given n) d = one n d

of_field : {s : List ℕ} {a b : ℕ} {k : Field Number} → FieldAt s a k b → NoDigit s b → NoDigit s a × InOrder s a (field_numbers k) b
of_field (FieldAt.I at w) e = (stop at (plain letter_i refl refl refl), before (sign at (plain letter_i refl refl refl)) (one w e))
of_field (FieldAt.F at w p d) e =
    (stop at (plain letter_f refl refl refl), before (sign at (plain letter_f refl refl refl)) (append (one w (stop p (plain decimal_point refl refl refl))) (before (sign p (plain decimal_point refl refl refl)) (one d e))))
of_field (FieldAt.L at w) e = (stop at (plain letter_l refl refl refl), before (sign at (plain letter_l refl refl refl)) (one w e))
of_field (FieldAt.A at) e = (stop at (plain letter_a refl refl refl), InOrder.none (sign at (plain letter_a refl refl refl)))
of_field (FieldAt.Aw at w) e = (stop at (plain letter_a refl refl refl), before (sign at (plain letter_a refl refl refl)) (one w e))

of_setting : {s : List ℕ} {a b : ℕ} {k : SettingItem} → SettingAt s a k b → NoNumber s a b
of_setting (SettingAt.SP {a} at p) = rw (two a) (no_more (sign at (plain letter_s refl refl refl)) (sign p (plain letter_p refl refl refl)))
of_setting (SettingAt.SS {a} at t) = rw (two a) (no_more (sign at (plain letter_s refl refl refl)) (sign t (plain letter_s refl refl refl)))
of_setting (SettingAt.S at) = sign at (plain letter_s refl refl refl)

-- the items that follow a last item have none
alone : {s : List ℕ} {a b : ℕ} {ns : List Ranged} → InOrder s a ns b → InOrder s a (ns ++ []) b
alone {s} {a} {b} {ns} k = subst (λ (l : List Ranged). InOrder s a l b) (sym (append-nil ns)) k

of_derived : {s : List ℕ} {k : Nonterminal} {l a b : ℕ} {x : Items} → Derives s k l a x b → NoDigit s b → InOrder s a (numbers x) b
unfolding numbers
of_derived (Derives.field r f) e = let k = of_field f e in alone (append (of_repeat r k.0) k.1)
of_derived (Derives.group r o d c) e =
    let k = plain opening_bracket refl refl refl in
    let j = plain closing_bracket refl refl refl in
    alone (append (of_repeat r (stop o k)) (before (sign o k) (after (of_derived d (stop c j)) (sign c j))))
of_derived (Derives.X n x) e = let k = plain letter_x refl refl refl in after (one n (stop x k)) (sign x k)
of_derived (Derives.T t n) e = before (sign t (plain letter_t refl refl refl)) (one n e)
of_derived (Derives.slash r x) e = let k = plain slash_sign refl refl refl in alone (after (of_repeat r (stop x k)) (sign x k))
of_derived (Derives.literal f) e = InOrder.none (NoNumber.literal f NoNumber.none)
of_derived (Derives.setting k) e = InOrder.none (of_setting k)
of_derived (Derives.one d) e = of_derived d e
of_derived {s} (Derives.more {a} {c} {xs} {x} d at f) e =
    let k = plain comma refl refl refl in
    subst (λ (l : List Ranged). InOrder s a l c) (sym (numbers_join xs x)) (append (of_derived d (stop at k)) (before (sign at k) (of_derived f e)))

pub numbers_in_order : NumbersInOrder
numbers_in_order s xs f =
    let o = plain opening_bracket refl refl refl in
    let c = plain closing_bracket refl refl refl in
    subst (λ (b : ℕ). InOrder s 0 (numbers xs) b) (sym f.whole) (before (sign f.opens o) (after (of_derived f.items (stop f.closes c)) (sign f.closes c)))
