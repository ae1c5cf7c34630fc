use Rattle.std.proofs.Common.{◌≡◌, ◌≢◌, sym, subst, ◌∙◌, ℕ, vec_items, Vec, Global}
use Rattle.std.specs.List.{All}
use Rattle.std.specs.Io.Iter.{split_byte, split_known_bytes, YieldsWithout, YieldsKnownPiece}
use Rattle.std.specs.Io.BufRead.{first_piece}
use Rattle.std.specs.Io.Buffered.{reader_remaining}
use Rattle.std.specs.Io.Take.{take_remaining}
use Rattle.std.proofs.lemmas.List.Elements.{All-nil}
use Rattle.std.proofs.lemmas.Result.{IfOk-weaker}
use Rattle.case_lines.proofs.Collected.{all_collected}
use Rattle.case_lines.proofs.lines.input_lines.Goals as goal

-- a line has no line feed
abbrev NoFeed : Vec ℕ Global → Type 0
NoFeed line = All (λ byte. byte ≢ 10) (vec_items line)

pub returns : goal.returns
returns g c = IfOk-weaker c.try_collect.result _ _ (λ lines ran.
    let left = reader_remaining (take_remaining g.rt.Reader.Read.remaining) in
    all_collected
    (λ s r t. YieldsWithout vec_items r (split_byte s) × (split_byte t ≡ split_byte s)
    × YieldsKnownPiece vec_items (first_piece (split_byte s)) (split_byte s) (split_known_bytes left s) r (split_known_bytes left t))
    (λ s. split_byte s ≡ 10) NoFeed vec_items _
    (λ s line t going step. (step.1 ∙ going, subst (λ n. All (λ byte. byte ≢ n) (vec_items line)) going step.0))
    (λ v r w added. (added.0, added.1, added.2.0))
    ran.0 c.split.result ran.2.1.0 ran.1 lines ran.2.1.1 ran.4 c.split.ensures.byte
    (subst (All NoFeed) (sym ran.3.0) (All-nil NoFeed))) c.try_collect.ensures.ran
