-- The step of a field, from what its word says.
-- Assumes nothing.
use Rattle.std.proofs.Common.{◌≡◌, refl, sym, ap, ◌∙◌, Bool, true, false, List, [], ◌∷◌, ℕ, ◌+◌, ◌<◌, ◌≤◌, length, drop, get_or}
use Rattle.std.proofs.lemmas.List.{length-map}
use Rattle.std.specs.Prelude.{cond, leb, Some, None, Ok, Err}
use lib.ListN.{get_or-map}
use lib.Seq.{drop-cons}
use native.Mathlib.Numerals.{add-one}
use borrow.Author.Tests.{leb-true}
use Rattle.format_items.specs.Items.{Field}
use Rattle.format_items.specs.Met.{Met}
use Rattle.format_words.specs.Words.{met_of}
use Rattle.format_words.specs.declared.Word.{Word}
use Rattle.format_words.specs.declared.Word.TheVariants as word
use Rattle.list_elements.specs.Elements.{Kind, kind_of, value_of, kinds_of}
use Rattle.list_elements.specs.declared.Element.{Element}
use Rattle.sheet_walk.specs.declared.Refusal.{Refusal}
use Rattle.sheet_walk.specs.declared.Refusal.TheVariants as refusal
use Rattle.sheet_walk.specs.declared.State.{State}
use Rattle.sheet_walk.specs.declared.Cover.{Cover}
use Rattle.sheet_walk.specs.declared.walk.Turn.TheVariants as turn
use Rattle.sheet_walk.specs.Steps.{Records, What, Step, moves, covers, refused, ends, to_column, suits, field_width, element, cover_step, field_step}
use Rattle.sheet_walk.specs.Given.{item_width, suited_width, KeepsField}
use Rattle.sheet_walk.specs.Followed.{CoversAs, AnswersAs}

-- the word of a field is that of the field, whatever the characters of literals are
field_word : (t u : List ℕ) (w : Word) (f : Field ℕ) → met_of t w ≡ Met.field f → met_of u w ≡ Met.field f
field_word t u (word.I n) f e = e
field_word t u (word.F n d) f e = e
field_word t u (word.L n) f e = e
field_word t u word.A f e = e
field_word t u (word.Aw n) f e = e
field_word t u (word.X n) f e = e
field_word t u (word.T n) f e = e
field_word t u word.Slash f e = e
field_word t u (word.Literal a n) f e = let g : ⊥ = cc in absurd g
field_word t u (word.Setting k) f e = e

-- the columns are the field's, where its kind suits
suited_is : (t : List ℕ) (w : Word) (f : Field ℕ) (k : Kind) → met_of t w ≡ Met.field f → suited_width w k ≡ cond (suits f k) (Some (field_width f k)) None
suited_is t w f k e = ap (λ x. item_width x k) (field_word t [] w f e)

-- the step of a field where an element x remains
module _ (rs : Records) (s : State) (es : List Element) (f : Field ℕ) (x : Element) (h : s.taken < length es) (is : get_or es s.taken x ≡ x) where
  kinds_left : drop s.taken (kinds_of es) ≡ kind_of (value_of x) ∷ drop (s.taken + 1) (kinds_of es)
  kinds_left =
      let g : s.taken < length (kinds_of es) = rw length-map h in
      let k : get_or (kinds_of es) s.taken (kind_of (value_of x)) ≡ kind_of (value_of x) = get_or-map (λ y. kind_of (value_of y)) es s.taken x ∙ ap (λ y. kind_of (value_of y)) is in
      rw (add-one s.taken, drop-cons (kinds_of es) s.taken (kind_of (value_of x)) g, k)

  pub step_is : field_step rs s f (drop s.taken (kinds_of es))
      ≡ cond (suits f (kind_of (value_of x))) (cover_step rs s (element s.taken f) (field_width f (kind_of (value_of x))) (s.taken + 1)) (refused (refusal.Kind s.taken))
  step_is = ap (field_step rs s f) kinds_left

module _ (rs : Records) (s : State) (es : List Element) (t : List ℕ) (w : Word) (f : Field ℕ) (e : met_of t w ≡ Met.field f) where
  abbrev the_step : Step
  the_step = field_step rs s f (drop s.taken (kinds_of es))

  module _ (x : Element) (h : s.taken < length es) (is : get_or es s.taken x ≡ x) where
    abbrev the_kind : Kind
    the_kind = kind_of (value_of x)

    pub field_unsuited : suited_width w the_kind ≡ None → AnswersAs rs f s the_step (Err (refusal.Kind s.taken)) s
    field_unsuited n = rw (step_is rs s es f x h is) (go (suits f the_kind) (sym (suited_is t w f the_kind e) ∙ n))
      where
        go : (b : Bool) → cond b (Some (field_width f the_kind)) None ≡ None
            → AnswersAs rs f s (cond b (cover_step rs s (element s.taken f) (field_width f the_kind) (s.taken + 1)) (refused (refusal.Kind s.taken))) (Err (refusal.Kind s.taken)) s
        go true g = let z : ⊥ = cc in absurd z
        go false g = refl

    -- the columns are those of the field, and it covers them
    pub field_suited : {n : ℕ} → suited_width w the_kind ≡ Some n → (n ≡ field_width f the_kind) × (the_step ≡ cover_step rs s (element s.taken f) n (s.taken + 1))
    field_suited {n} g = let y = go (suits f the_kind) (sym (suited_is t w f the_kind e) ∙ g) in (y.0, step_is rs s es f x h is ∙ y.1)
      where
        go : (b : Bool) → cond b (Some (field_width f the_kind)) None ≡ Some n
            → (n ≡ field_width f the_kind) × (cond b (cover_step rs s (element s.taken f) (field_width f the_kind) (s.taken + 1)) (refused (refusal.Kind s.taken)) ≡ cover_step rs s (element s.taken f) n (s.taken + 1))
        go true g = let z : field_width f the_kind ≡ n = cc in (sym z, ap (λ m. cover_step rs s (element s.taken f) m (s.taken + 1)) z)
        go false g = let z : ⊥ = cc in absurd z

-- ---- a step that covers w columns, as the code answers it

module _ (rs : Records) (s : State) (what : What) (w taken : ℕ) where
  -- they are columns of the record
  pub covers_narrow : (at : ℕ) (n : State) → CoversAs rs (cover_step rs s what w taken) (Ok at) n → s.column + w ≤ rs.width + 1
  covers_narrow at n = go (leb (s.column + w) (rs.width + 1)) refl
    where
      go : (b : Bool) → leb (s.column + w) (rs.width + 1) ≡ b
          → CoversAs rs (cond b (covers (record { what = what; row = s.row; column = s.column; width = w; settings = s.settings }) (to_column s (s.column + w) taken)) (refused (refusal.Column s.taken))) (Ok at) n → s.column + w ≤ rs.width + 1
      go true e h = leb-true _ _ e
      go false e h = let z : ⊥ = cc in absurd z

  pub covered_as : (f : Field ℕ) {at : ℕ} (n : State) (c : Cover) → CoversAs rs (cover_step rs s what w taken) (Ok at) n → c.at ≡ at → c.settings ≡ s.settings → KeepsField c.word w f
      → AnswersAs rs f s (cover_step rs s what w taken) (Ok (turn.Covers c)) n
  covered_as f {at} n c h o g k = go (leb (s.column + w) (rs.width + 1)) h
    where
      go : (b : Bool) → CoversAs rs (cond b (covers (record { what = what; row = s.row; column = s.column; width = w; settings = s.settings }) (to_column s (s.column + w) taken)) (refused (refusal.Column s.taken))) (Ok at) n
          → AnswersAs rs f s (cond b (covers (record { what = what; row = s.row; column = s.column; width = w; settings = s.settings }) (to_column s (s.column + w) taken)) (refused (refusal.Column s.taken))) (Ok (turn.Covers c)) n
      go true m = let e = m.0 in let z : at ≡ _ = cc in (c, refl, record { at = o ∙ z; settings = g; keeps = k }, m.1)
      go false g = let z : ⊥ = cc in absurd z

pub refused_as : (rs : Records) (f : Field ℕ) (s : State) (st : Step) (why : Refusal) (n : State) → CoversAs rs st (Err why) n → AnswersAs rs f s st (Err why) n
refused_as rs f s (moves n) c v h = absurd h
refused_as rs f s (covers p n) c v h = let e = h.0 in let z : ⊥ = cc in absurd z
refused_as rs f s (refused why) c v h = let g : c ≡ why = cc in ap (λ x. Err x) g
refused_as rs f s ends c v h = absurd h
