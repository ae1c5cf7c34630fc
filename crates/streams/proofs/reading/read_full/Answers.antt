use Rattle.std.proofs.Common.{◌⊎◌, ⊎_elim, arith, take_all, append-nil, Option, Some, None, inl, inr, ◌≡◌, ℕ, ◌+◌, ◌-◌, ◌≤◌, List, ◌++◌, rules, length, take, sym, ap, ◌∙◌, subst, length-take-le}
use Rattle.buffer.proofs.Splicing.{front_and_part}
use Rattle.std.specs.Option.{IfSome}
use Rattle.std.proofs.lemmas.List.{take_at}
use Rattle.std.proofs.KnownBytes.{Consumes-trans}
use Rattle.std.specs.Io.KnownBytes.{Consumes, IsAtEnd}
use borrow.Rule.Slice.PartMut.{put_mid}
use Rattle.streams.proofs.reading.read_full.Goals as goal

-- what a reader gave that filled the buffer, or that is at its end
first_bytes : (a b : Option (List ℕ)) (n : ℕ) (buffer : List ℕ) → n ≤ length buffer → Consumes a b (take n buffer) → (length buffer ≤ n) ⊎ IsAtEnd b
    → IfSome a (λ input. take n buffer ≡ take (length buffer) input)
first_bytes None b n buffer within given all = tt
first_bytes (Some x) None n buffer within given all = absurd given
first_bytes (Some x) (Some y) n buffer within given all =
    let here : length (take n buffer) ≡ n = length-take-le n buffer within in
    ⊎_elim
    (λ full. sym (ap (take (length buffer)) given ∙ take_at (take n buffer) y (length buffer) (omega (arith, here))))
    (λ end. sym (ap (take (length buffer)) (given ∙ ap (λ l. take n buffer ++ l) end ∙ append-nil (take n buffer)) ∙ take_all (length buffer) (take n buffer) (omega (arith, here))))
    all

pub loop-done-preserved : goal.loop-done-preserved
loop-done-preserved g c =
    let same = front_and_part c.loop-done.done (length c.loop-done.buffer - c.loop-done.done) c.in_ok-n.n c.loop-done.buffer c.read_part.new.part
    c.loop-done.invariant.within c.in_ok-n.ensures.bound.0 in
    record {
      within = search rules;
      given = subst (Consumes _ _) same (Consumes-trans _ _ _ _ _ c.loop-done.invariant.given c.in_ok-n.ensures.bytes.0);
    }

pub returns-then-n-eq0-clause-first : goal.returns-then-n-eq0-clause-first
returns-then-n-eq0-clause-first g c =
    let at = c.loop-done.done in
    let new = put_mid at (length c.loop-done.buffer - at) c.loop-done.buffer c.read_part.new.part in
    let same = front_and_part at (length c.loop-done.buffer - at) c.in_ok-n.n c.loop-done.buffer c.read_part.new.part
    c.loop-done.invariant.within c.in_ok-n.ensures.bound.0 in
    let all = subst (Consumes _ _) same (Consumes-trans _ _ _ _ _ c.loop-done.invariant.given c.in_ok-n.ensures.bytes.0) in
    let none : at + c.in_ok-n.n ≡ at = omega (arith, c.if-n-eq0.true) in
    first_bytes _ _ at new (search rules) (subst (λ k. Consumes (g.R.Read.remaining c.args.reader.now) (g.R.Read.remaining c.read_part.new.reader) (take k new)) none all) (inr (c.in_ok-n.ensures.bytes.1 c.if-n-eq0.true (search rules)))

pub returns-clause-first : goal.returns-clause-first
returns-clause-first g c = first_bytes _ _ _ _ c.loop-done.invariant.within c.loop-done.invariant.given (inl c.loop-done-test.false)
