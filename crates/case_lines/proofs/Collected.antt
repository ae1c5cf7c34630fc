-- What holds of all items that `try_collect` puts into a vector.
use Rattle.std.proofs.Common.{◌≡◌, sym, subst, List, [], ◌∷◌, ◌++◌, Option, Some, Result, Ok}
use Rattle.std.specs.List.{All, FoldsTo}
use Rattle.std.specs.Iterator.{Yields}
use Rattle.std.proofs.lemmas.List.Elements.{All-push}

module _ {S X V E : Type 0} (steps : S → Option (Result X E) → S → Type 0) (Going : S → Type 0) (P : X → Type 0) (items : V → List X) (adds : V → Result X E → V → Type 0) where
  -- P holds of each item of the vector, where it holds of each that the iterator gives. (`Going` is what holds of the iterator before each
  -- item; `adds` puts one into the vector.)
  pub all_collected : ((s : S) (x : X) (t : S) → Going s → steps s (Some (Ok x)) t → Going t × P x)
      → ((v : V) (r : Result X E) (w : V) → adds v r w → (x : X) × (Ok x ≡ r) × (items w ≡ items v ++ (x ∷ [])))
      → (rs : List (Result X E)) (s t : S) (v w : V) → Yields steps s rs t → FoldsTo adds v rs w
      → Going s → All P (items v) → All P (items w)
  all_collected step added [] s t v w gave took going all = subst (λ (u : V). All P (items u)) took all
  all_collected step added (r ∷ rs) s t v w gave took going all =
      let one = added v r took.0 took.1 in
      let given = step s one.0 gave.0 going (subst (λ (q : Result X E). steps s (Some q) gave.0) (sym one.1) gave.1) in
      all_collected step added rs gave.0 t took.0 w gave.2 took.2 given.0 (subst (All P) (sym one.2) (All-push P (items v) one.0 all given.1))
