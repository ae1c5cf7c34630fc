use Rattle.std.proofs.Common.{IfSome, Option, Some, None, ◌≡◌, ℕ, List, length, take, ap, ◌∙◌, sym, subst, rules}
use Rattle.std.proofs.lemmas.List.{take_at}
use Rattle.std.specs.Io.KnownBytes.{Appends, Consumes}
use Rattle.buffer.specs.Splice.{splice}
use Rattle.sheet_text.specs.SheetOutput.{sheet_output}
use Rattle.streams.specs.Beginnings.{AppendsBeginning}
use Rattle.trimsheet.proofs.run.Goals as goal

-- bytes laid at the front stand there
take_splice : (old xs new : List ℕ) (n : ℕ) → new ≡ splice old 0 xs → n ≡ length xs → take n new ≡ xs
unfolding splice
take_splice old xs new n e long = ap (take n) e ∙ take_at xs _ n (sym long)

-- where the input is known: its first bytes were taken into the buffer, and what holds of the output laid holds of that for the whole
ended : (P : List ℕ → Type 0) (most : ℕ) (a b : Option (List ℕ)) (n : ℕ) (buffer output : List ℕ) → length buffer ≡ most → Consumes a b (take n buffer)
    → IfSome a (λ xs. take n buffer ≡ take (length buffer) xs) → output ≡ sheet_output (take n buffer)
    → ((whole : List ℕ) → take n buffer ≡ take most whole → sheet_output (take n buffer) ≡ sheet_output whole) → P output
    → IfSome a (λ whole. Consumes a b (take most whole) × P (sheet_output whole))
ended P most None b n buffer output long given first laid rest p = tt
ended P most (Some xs) b n buffer output long given first laid rest p =
    let front : take n buffer ≡ take most xs = first ∙ ap (λ k. take k xs) long in
    (subst (Consumes (Some xs) b) front given, subst P (laid ∙ rest xs front) p)

pub returns-in-Ok-write_full-clause-answered : goal.returns-in-Ok-write_full-clause-answered
returns-in-Ok-write_full-clause-answered g c =
    let long : length c.read_full.new.buffer ≡ 8192 = search rules in
    ended (Appends (g.W.Write.contents c.args.writer.now) _) _ (g.R.Read.remaining c.args.reader.now) _ _ _ _ long c.in-Ok.ensures.given c.in-Ok.ensures.first
    (take_splice _ _ _ _ c.sheet-len.ensures.output c.sheet-len.ensures.length) c.sheet-len.ensures.whole c.in-Ok-write_full.ensures.all

pub returns-in-Err-write_full-clause-failed : goal.returns-in-Err-write_full-clause-failed
returns-in-Err-write_full-clause-failed g c =
    let long : length c.read_full.new.buffer ≡ 8192 = search rules in
    ended (AppendsBeginning (g.W.Write.contents c.args.writer.now) _) _ (g.R.Read.remaining c.args.reader.now) _ _ _ _ long c.in-Ok.ensures.given c.in-Ok.ensures.first
    (take_splice _ _ _ _ c.sheet-len.ensures.output c.sheet-len.ensures.length) c.sheet-len.ensures.whole c.in-Err-write_full.ensures.begun
