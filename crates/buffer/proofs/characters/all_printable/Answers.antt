use Rattle.std.proofs.Common.{rules}
use Rattle.std.proofs.lemmas.Iterator.{YieldsList-from_slice}
use Rattle.std.proofs.lemmas.Iterator.Search.{all_from_yields_List}
use Rattle.buffer.specs.Characters.{is_printable, all_printable}
use Rattle.buffer.proofs.characters.all_printable.Goals as goal

-- (The check finds this alone. It stands here so that the wrong version `only_the_first_byte` is refused by a fact.)
pub returns : goal.returns
unfolding all_printable
returns c = all_from_yields_List is_printable _ _ _ c.all.ensures.ran (YieldsList-from_slice c.args.bytes.now c.iter.ensures.rest) (λ x b q k. search rules)
