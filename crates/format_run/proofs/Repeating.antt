-- The loop that repeats words.
-- Assumes nothing.
use Rattle.std.proofs.Common.{◌≡◌, refl, sym, ap, ◌∙◌, List, ◌++◌, append_assoc, append-nil, ℕ, zero, suc, ◌+◌, ◌-◌, ◌*◌, ◌<◌, ◌≤◌, arith, length, take, get_or}
use lib.ListN.{set, get_or-append}
use lib.Seq.{length-take-le, take_at, take_all, take-suc, take-suc-set, get_or-take, get_or-append-add}
use native.Mathlib.Nat.{mul-le-mul, one-mul, zero-mul, suc-mul}
use native.Mathlib.Numerals.{add-one}
use Rattle.format_items.specs.Met.{repeat}
use Rattle.format_items.proofs.MetLaws.{length_repeat}

repeat_last : {A : Type 0} (r : ℕ) (xs : List A) → repeat (suc r) xs ≡ repeat r xs ++ xs
unfolding repeat
repeat_last zero xs = append-nil xs
repeat_last (suc r) xs = ap (λ l. xs ++ l) (repeat_last r xs) ∙ sym (append_assoc xs (repeat r xs) xs)

repeat_first : {A : Type 0} (r : ℕ) (xs : List A) → 1 ≤ r → take (length xs) (repeat r xs) ≡ xs
unfolding repeat
repeat_first zero xs h = absurd (omega arith)
repeat_first (suc r) xs h = take_at xs (repeat r xs) (length xs) refl

-- what stands a list's length further on is the same
period : {A : Type 0} (d : A) (r : ℕ) (xs : List A) (j : ℕ)
    → length xs + j < r * length xs → get_or (repeat r xs) (length xs + j) d ≡ get_or (repeat r xs) j d
unfolding repeat
period d zero xs j h = absurd (omega (arith, zero-mul (length xs)))
period d (suc r) xs j h =
    let b : j < length (repeat r xs) = omega (arith, suc-mul r (length xs), length_repeat r xs) in
    get_or-append-add xs (repeat r xs) j d ∙ sym (get_or-append (repeat r xs) xs d j b)
    ∙ ap (λ l. get_or l j d) (sym (repeat_last r xs))

pub once_at_most : (r x : ℕ) → 1 ≤ r → x ≤ r * x
once_at_most r x h = let e : 1 * x ≤ r * x = mul-le-mul h (omega arith) in omega (arith, one-mul x)

-- ---- up to i the words are those of the end

module _ {A : Type 0} (run : List A) (n r : ℕ) (some : 1 ≤ r) (room : r * n ≤ length run) where
  part_long : length (take n run) ≡ n
  part_long = length-take-le n run (omega (arith, once_at_most r n some))

  pub repeating_none : take n run ≡ take n (repeat r (take n run))
  repeating_none = sym (ap (λ k. take k (repeat r (take n run))) (sym part_long) ∙ repeat_first r (take n run) some)

  pub repeating_all : (now : List A) (i end : ℕ) → end ≡ r * n → end ≤ i → (n ≤ end → i ≤ end) → take i now ≡ take i (repeat r (take n run)) → take end now ≡ repeat r (take n run)
  repeating_all now i end e low high is =
      let h : n ≤ end = omega (arith, once_at_most r n some) in
      let g : i ≤ end = high h in
      let s : i ≡ end = omega arith in
      let l : length (repeat r (take n run)) ≡ r * n = length_repeat r (take n run) ∙ ap (λ (k : ℕ). r * k) part_long in
      ap (λ k. take k now) (sym s) ∙ is ∙ take_all i (repeat r (take n run)) (omega arith)

  pub repeating_more : (d : A) (now : List A) (i : ℕ) → length now ≡ length run → n ≤ i → i < r * n → take i now ≡ take i (repeat r (take n run))
      → take (i + 1) (set now i (get_or now (i - n) d)) ≡ take (i + 1) (repeat r (take n run))
  repeating_more d now i long low high is =
      let R : List A = repeat r (take n run) in
      let l : length R ≡ r * n = length_repeat r (take n run) ∙ ap (λ (k : ℕ). r * k) part_long in
      let some_n : 0 < n = positive n high in
      let j : ℕ = i - n in
      let same : get_or now j d ≡ get_or R i d =
      sym (get_or-take i now j d (omega arith))
      ∙ ap (λ w. get_or w j d) is
      ∙ get_or-take i R j d (omega arith)
      ∙ sym (period d r (take n run) j (rw part_long (omega arith)))
      ∙ ap (λ (k : ℕ). get_or R k d) (rw part_long (omega arith)) in
      rw (add-one i, take-suc-set now i (get_or now j d) (omega arith), is, same) (sym (take-suc R i d (omega arith)))
    where
      positive : (m : ℕ) → i < r * m → 0 < m
      positive zero h = omega arith
      positive (suc m) h = omega arith
