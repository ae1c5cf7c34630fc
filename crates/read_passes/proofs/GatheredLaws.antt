-- What is gathered on a walk: accepted where it ends and every field gives something, and refused else.
-- Assumes nothing.
use mathlib.Core.Path.{◌≡◌, refl, sym, subst, ◌∙◌}
use mathlib.Core.List.{List, [], ◌∷◌}
use Prim.Native.Nat.{ℕ}
use native.Mathlib.Omega.{arith}
use Rattle.format_items.specs.Items.{Field}
use Rattle.list_elements.specs.Elements.{Kind}
use Rattle.list_elements.specs.Contents.{Content}
use Rattle.sheet_walk.specs.Steps.{What, element, literal, Placement}
use Rattle.sheet_walk.specs.Walk.{Trace, put, done, stopped}
use Rattle.sheet_walk.specs.Columns.{In, here, there}
use Rattle.sheet_walk.specs.Laid.{columns}
use Rattle.sheet_walk.specs.Promises.{EndsWith, StopsWith}
use Rattle.sheet_walk.specs.declared.Refusal.{Refusal}
use Rattle.sheet_walk.specs.declared.Refusal.TheVariants.{FieldText}
use Rattle.sheet_walk.proofs.Covering.{in-put, in-done}
use Rattle.read_passes.specs.Given.{Given, gives, nothing, field_gives, Gathered, accepted, refused, element_gathered, kind_at, what_gathered, gathered}
use Rattle.read_passes.proofs.GivenLaws.{no_content}

-- ---- one placement

-- of a literal, anything holds of the element that it is
pub at_literal : (P : ℕ → Field ℕ → Type 0) (p : Placement) (bytes : List ℕ) → p.what ≡ literal bytes → (i : ℕ) (f : Field ℕ) → p.what ≡ element i f → P i f
at_literal P p bytes q i f s =
    let y : literal bytes ≡ element i f = sym q ∙ s in
    let z : ◌≡◌ {A = ℕ} 0 1 = cc in
    absurd (omega arith)

-- and of an element, what holds of it
pub at_element : (P : ℕ → Field ℕ → Type 0) (p : Placement) (i : ℕ) (f : Field ℕ) → p.what ≡ element i f → P i f → (k : ℕ) (g : Field ℕ) → p.what ≡ element k g → P k g
at_element P p i f q h k g s =
    let y : element k g ≡ element i f = sym s ∙ q in
    let a : k ≡ i = cc in
    let b : g ≡ f = cc in
    rw (a, b) h

-- what its columns give, read as the field f of element i
abbrev pub given_at : ℕ → List Kind → List ℕ → Placement → ℕ → Field ℕ → Given
given_at R kinds records p i f = field_gives f (kind_at kinds i) (columns R p records)

-- it is a literal, or its field gives something
abbrev pub Readable : ℕ → List Kind → List ℕ → Placement → Type 0
Readable R kinds records p = (i : ℕ) (f : Field ℕ) → p.what ≡ element i f → given_at R kinds records p i f ≡ nothing → ⊥

-- the placements of a walk
abbrev pub AllReadable : ℕ → List Kind → List ℕ → Trace → Type 0
AllReadable R kinds records t = (p : Placement) → In p t → Readable R kinds records p

-- ---- a walk

-- it ends with n records, and its fields give the contents cs, in order
pub data Gathers (R : ℕ) (kinds : List Kind) (records : List ℕ) : Trace → List Content → ℕ → Type 0 where
  ends : {n : ℕ} → Gathers R kinds records (done n) [] n
  passes : {p : Placement} {t : Trace} {cs : List Content} {n : ℕ} {bytes : List ℕ} → p.what ≡ literal bytes → Gathers R kinds records t cs n
      → Gathers R kinds records (put p t) cs n
  takes : {p : Placement} {t : Trace} {c : Content} {cs : List Content} {n i : ℕ} {f : Field ℕ} → p.what ≡ element i f
      → given_at R kinds records p i f ≡ gives c → Gathers R kinds records t cs n → Gathers R kinds records (put p t) (c ∷ cs) n

-- its first refusal
pub data Refuses (R : ℕ) (kinds : List Kind) (records : List ℕ) : Trace → Refusal → Type 0 where
  stops : {why : Refusal} → Refuses R kinds records (stopped why) why
  after : {p : Placement} {t : Trace} {why : Refusal} → Readable R kinds records p → Refuses R kinds records t why → Refuses R kinds records (put p t) why
  unreadable : {p : Placement} {t : Trace} {i : ℕ} {f : Field ℕ} → p.what ≡ element i f → given_at R kinds records p i f ≡ nothing
      → Refuses R kinds records (put p t) (FieldText i)

-- what is gathered, with the reason for it
pub data Told (R : ℕ) (kinds : List Kind) (records : List ℕ) (t : Trace) : Gathered → Type 0 where
  accepts : {cs : List Content} {n : ℕ} → Gathers R kinds records t cs n → Told R kinds records t (accepted cs n)
  refuses : {why : Refusal} → Refuses R kinds records t why → Told R kinds records t (refused why)

module _ (R : ℕ) (kinds : List Kind) (records : List ℕ) where
  literal_readable : (p : Placement) (bytes : List ℕ) → p.what ≡ literal bytes → Readable R kinds records p
  literal_readable p = at_literal (λ i f. given_at R kinds records p i f ≡ nothing → ⊥) p

  element_readable : (p : Placement) (i : ℕ) (f : Field ℕ) (c : Content) → p.what ≡ element i f → given_at R kinds records p i f ≡ gives c → Readable R kinds records p
  element_readable p i f c q e = at_element (λ k g. given_at R kinds records p k g ≡ nothing → ⊥) p i f q (λ none. no_content (sym none ∙ e))

  told_put : (p : Placement) (t : Trace) (g : Gathered) → Told R kinds records t g → Told R kinds records (put p t) (what_gathered R kinds records p p.what g)
  told_put p t g rest = go p.what refl
    where
      test : (i : ℕ) (f : Field ℕ) → p.what ≡ element i f → (x : Given) → given_at R kinds records p i f ≡ x → {g : Gathered} → Told R kinds records t g
          → Told R kinds records (put p t) (element_gathered i x g)
      test i f q (gives c) e (Told.accepts a) = Told.accepts (Gathers.takes q e a)
      test i f q (gives c) e (Told.refuses r) = Told.refuses (Refuses.after (element_readable p i f c q e) r)
      test i f q nothing e _ = Told.refuses (Refuses.unreadable q e)

      past : (bytes : List ℕ) → p.what ≡ literal bytes → {g : Gathered} → Told R kinds records t g → Told R kinds records (put p t) g
      past bytes q (Told.accepts a) = Told.accepts (Gathers.passes q a)
      past bytes q (Told.refuses r) = Told.refuses (Refuses.after (literal_readable p bytes q) r)

      go : (what : What) → p.what ≡ what → Told R kinds records (put p t) (what_gathered R kinds records p what g)
      go (element i f) q = test i f q (given_at R kinds records p i f) refl rest
      go (literal bytes) q = past bytes q rest

  pub told : (t : Trace) → Told R kinds records t (gathered R kinds records t)
  unfolding gathered
  told (put p t) = told_put p t (gathered R kinds records t) (told t)
  told (done n) = Told.accepts Gathers.ends
  told (stopped why) = Told.refuses Refuses.stops

  pub gathered_gathers : (t : Trace) {cs : List Content} {n : ℕ} → gathered R kinds records t ≡ accepted cs n → Gathers R kinds records t cs n
  gathered_gathers t e = go (subst (Told R kinds records t) e (told t))
    where
      go : {cs : List Content} {n : ℕ} → Told R kinds records t (accepted cs n) → Gathers R kinds records t cs n
      go (Told.accepts a) = a

  -- what is refused after a placement that is readable is refused with it
  past_refused : (p : Placement) (why : Refusal) → Readable R kinds records p → what_gathered R kinds records p p.what (refused why) ≡ refused why
  past_refused p why r = go p.what refl
    where
      test : (i : ℕ) (x : Given) → (x ≡ nothing → ⊥) → element_gathered i x (refused why) ≡ refused why
      test i (gives c) ne = refl
      test i nothing ne = absurd (ne refl)

      go : (what : What) → p.what ≡ what → what_gathered R kinds records p what (refused why) ≡ refused why
      go (element i f) q = test i (given_at R kinds records p i f) (r i f q)
      go (literal bytes) q = refl

  -- a placement that is readable, before contents that are gathered
  put_gathers : (p : Placement) (t : Trace) (cs : List Content) (n : ℕ) → Readable R kinds records p → Gathers R kinds records t cs n
      → (ds : List Content) × Gathers R kinds records (put p t) ds n
  put_gathers p t cs n r rest = go p.what refl
    where
      test : (i : ℕ) (f : Field ℕ) → p.what ≡ element i f → (x : Given) → given_at R kinds records p i f ≡ x → (ds : List Content) × Gathers R kinds records (put p t) ds n
      test i f q (gives c) e = (c ∷ cs, Gathers.takes q e rest)
      test i f q nothing e = absurd (r i f q e)

      go : (what : What) → p.what ≡ what → (ds : List Content) × Gathers R kinds records (put p t) ds n
      go (element i f) q = test i f q (given_at R kinds records p i f) refl
      go (literal bytes) q = (cs, Gathers.passes q rest)

-- ---- and back: the reason determines what is gathered

module _ {R : ℕ} {kinds : List Kind} {records : List ℕ} where
  pub gathers_so : {t : Trace} {cs : List Content} {n : ℕ} → Gathers R kinds records t cs n → gathered R kinds records t ≡ accepted cs n
  unfolding gathered
  gathers_so Gathers.ends = refl
  gathers_so (Gathers.passes q a) = rw q (gathers_so a)
  gathers_so (Gathers.takes q e a) = rw (q, e, gathers_so a)

  pub refuses_so : {t : Trace} {why : Refusal} → Refuses R kinds records t why → gathered R kinds records t ≡ refused why
  unfolding gathered
  refuses_so Refuses.stops = refl
  refuses_so (Refuses.after {p} {t} {why} r s) = rw (refuses_so s) (past_refused R kinds records p why r)
  refuses_so (Refuses.unreadable q e) = rw (q, e)

  -- ---- a walk that ends

  pub gathers_ends : {t : Trace} {cs : List Content} {n : ℕ} → Gathers R kinds records t cs n → EndsWith n t
  gathers_ends Gathers.ends = EndsWith.here
  gathers_ends (Gathers.passes q a) = EndsWith.there (gathers_ends a)
  gathers_ends (Gathers.takes q e a) = EndsWith.there (gathers_ends a)

  pub gathers_readable : {t : Trace} {cs : List Content} {n : ℕ} → Gathers R kinds records t cs n → AllReadable R kinds records t
  gathers_readable (Gathers.ends {n}) = in-done (Readable R kinds records) n
  gathers_readable (Gathers.passes {p} {bytes} q a) = in-put (Readable R kinds records) (literal_readable R kinds records p bytes q) (gathers_readable a)
  gathers_readable (Gathers.takes {p} {c} {i} {f} q e a) = in-put (Readable R kinds records) (element_readable R kinds records p i f c q e) (gathers_readable a)

  -- where every field gives something, contents are gathered
  pub readable_gathers : {n : ℕ} {t : Trace} → EndsWith n t → AllReadable R kinds records t → (cs : List Content) × Gathers R kinds records t cs n
  readable_gathers EndsWith.here all = ([], Gathers.ends)
  readable_gathers {n} (EndsWith.there {p} {t} e) all =
      let rest = readable_gathers e (λ q m. all q (there m)) in
      put_gathers R kinds records p t rest.0 n (all p here) rest.1

  -- and where the walk stops, its refusal is the first
  pub readable_refuses : {why : Refusal} {t : Trace} → StopsWith why t → AllReadable R kinds records t → Refuses R kinds records t why
  readable_refuses StopsWith.here all = Refuses.stops
  readable_refuses (StopsWith.there {p} s) all = Refuses.after (all p here) (readable_refuses s (λ q m. all q (there m)))

-- ---- a walk from what is gathered

module _ (R : ℕ) (kinds : List Kind) (records : List ℕ) (t : Trace) {cs : List Content} {n : ℕ} (e : gathered R kinds records t ≡ accepted cs n) where
  pub gathered_ends : EndsWith n t
  gathered_ends = gathers_ends (gathered_gathers R kinds records t e)
