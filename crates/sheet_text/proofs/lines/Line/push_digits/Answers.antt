use mathlib.Core.Path.{◌≡◌, sym, ap, ◌∙◌}
use mathlib.Core.List.{List, ◌++◌}
use Prim.Native.Nat.{ℕ, ◌+◌, ◌-◌, ◌≤◌}
use native.Mathlib.Omega.{arith}
use lib.ListN.{take, length, length-append}
use lib.Seq.{length-take-le}
use borrow.Rule.Slice.PartMut.{put_mid}
use Rattle.buffer.specs.Splice.{splice}
use Rattle.buffer.proofs.Splicing.{length_lent, splice_lent}
use Rattle.number.specs.Digits.{digits_of}
use Rattle.number.proofs.DigitLaws.{length_digits}
use Rattle.sheet_text.proofs.PutLaws.{take_splice}
use Rattle.sheet_text.proofs.lines.Line.push_digits.Goals as goal

pub returns : goal.returns
returns c =
    let xs : List ℕ = digits_of c.args.k c.args.n in
    let long : length xs ≡ c.args.k = length_digits c.args.k c.args.n in
    let before : length (take c.self.inside.len c.self.inside.bytes) ≡ length c.args.self.now = ap length c.self.view_is in
    let room : c.self.inside.len + length xs ≤ length c.self.inside.bytes = omega (arith, length-take-le c.self.inside.len c.self.inside.bytes (omega arith)) in
    let laid : take (c.self.inside.len + c.args.k) (splice c.self.inside.bytes c.self.inside.len xs) ≡ take c.self.inside.len c.self.inside.bytes ++ xs =
    ap (λ (i : ℕ). take (c.self.inside.len + i) (splice c.self.inside.bytes c.self.inside.len xs)) (sym long) ∙ take_splice c.self.inside.bytes c.self.inside.len xs room in
    let fits : c.self.inside.len + c.args.k ≤ length c.self.inside.bytes = omega (arith, room) in
    let l = length_lent c.self.inside.bytes c.self.inside.len c.args.k fits in
    let put = splice_lent c.self.inside.bytes c.self.inside.len c.args.k c.put_digits.new.part fits c.put_digits.auto.part (rw l at c.put_digits.ensures.digits) in
    let digits : take (c.self.inside.len + c.args.k) (put_mid c.self.inside.len (c.self.inside.len + c.args.k - c.self.inside.len) c.self.inside.bytes c.put_digits.new.part) ≡ c.args.self.now ++ xs = rw put (laid ∙ ap (λ (l : List ℕ). l ++ xs) c.self.view_is) in
    record { digits = digits; len = ap length digits ∙ length-append c.args.self.now xs ∙ ap (λ (i : ℕ). length c.args.self.now + i) long }
