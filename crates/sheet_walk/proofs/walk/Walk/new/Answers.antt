use Rattle.std.proofs.Common.{Bor, refl, ap, ◌∙◌, List}
use Rattle.std.specs.List.{list_any}
use Rattle.format_words.specs.declared.packed.Packed.{Packed}
use Rattle.format_words.specs.Packing.{word_in}
use Rattle.sheet_walk.specs.Given.{word_is_field}
use Rattle.sheet_walk.specs.Walk.{walk}
use Rattle.sheet_walk.proofs.Starts.{part_field, words_from}
use Rattle.sheet_walk.proofs.walk.Walk.new.Goals as goal

pub invariant_of-result-clause-returns_is : goal.invariant_of-result-clause-returns_is
invariant_of-result-clause-returns_is c =
    let ws = c.args.run.words.now in
    c.has_field.ensures
    ∙ ap (list_any (λ p. word_is_field (word_in p))) (ap (λ (b : Bor (List Packed)). b.now) c.unwrap_or-part.ensures ∙ words_from ws c.args.run.back c.get.result c.get.ensures.lookup _ refl)
    ∙ part_field c.args.run.chars.now ws c.args.run.back

pub returns-clause-left : goal.returns-clause-left
unfolding walk
returns-clause-left c = refl
