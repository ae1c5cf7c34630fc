-- So much of the room is left after the texts of the first elements.
use Rattle.list_elements.proofs.Fitting.{Fitting}
use Rattle.list_elements.proofs.texts.texts_fit.Given as goal

abbrev pub invariant-loop-element : goal.invariant-loop-element
invariant-loop-element l = Fitting l.elements l.room l.left l.element-index
