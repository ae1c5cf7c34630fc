-- What is laid of a part of the walk.
-- Assumes nothing.
use Rattle.std.proofs.Common.{◌≡◌, refl, sym, ap, subst, ◌∙◌, Bool, true, false, cond, List, [], ◌∷◌, map, ℕ, suc, ◌+◌, ◌<◌, ◌≤◌, length, take, drop, arith}
use Rattle.std.specs.List.{All}
use Rattle.std.proofs.lemmas.Bool.{or_parts}
use Rattle.std.proofs.lemmas.List.{length-map}
use Rattle.std.proofs.lemmas.List.Elements.{All-nil, All-cons, All-drop}
use mir.Val.{bool_byte}
use Rattle.buffer.specs.Splice.{splice}
use Rattle.settings.specs.declared.SettingItem.TheVariants.{SP, SS, S}
use Rattle.settings.specs.declared.SignSetting.{SignSetting}
use Rattle.settings.specs.declared.SignSetting.TheVariants.{AfterSS}
use Rattle.settings.specs.declared.Settings.{Settings}
use Rattle.format_items.specs.Met.{Met}
use Rattle.format_words.specs.Words.{met_of, met_in}
use Rattle.format_words.specs.declared.Word.{Word}
use Rattle.format_words.specs.declared.Word.TheVariants as word
use Rattle.format_words.specs.declared.packed.Packed.{Packed}
use Rattle.list_elements.specs.Elements.{kinds_of}
use Rattle.list_elements.specs.declared.Value.{Value}
use Rattle.sheet_walk.specs.Steps.{What, element, literal, Placement}
use Rattle.sheet_walk.specs.Walk.{Sheet, Trace, put, done, stopped, walk}
use Rattle.sheet_walk.specs.Laid.{offset_of, laid}
use Rattle.sheet_walk.specs.Columns.{In}
use Rattle.sheet_walk.specs.Promises.{place_of, elements_put, IsNoSP, NoSP}
use Rattle.sheet_walk.proofs.SettingLaws.{after_ss_throughout}
use lib.Dec.{leb}
use Rattle.format_words.specs.Packing.{literal_kind, kind_in, detail_in, columns_in, word_in}
use Rattle.sheet_walk.specs.Given.{given_sheet}
use Rattle.sheet_walk.specs.declared.Cover.{Cover}
use Rattle.sheet_walk.proofs.Covering.{puts_each, length_numbers}
use Rattle.sheet_walk.specs.declared.walk.Walk.{Walk}
use Rattle.sheet_walk.specs.declared.placing.Placed.{Placed}
use Rattle.sheet_walk.specs.declared.placing.Stop.{Stop}
use Rattle.sheet_walk.specs.declared.placing.Stop.TheVariants as stop
use Rattle.sheet_walk.specs.Followed.{GoesBy, left_of, Begins, PlacedAs}
use Rattle.sheet_walk.proofs.Parts.{First, PlacedIn, placed_in, stops_ends, stops_refused, stops_full}
use Rattle.sheet_walk.proofs.OneByOne.{cover_at, begins_at, begins_end, FieldAt, as_field, as_literal, takes_one, takes_none}
use Rattle.write_passes.specs.declared.Sheet as code
use Rattle.write_passes.specs.Placed.{field_characters, field_starred, field_too_large, value_at, characters_of, characters, starred_of, starred_in, accepted, judged}
use Rattle.write_passes.specs.Passes.{values_of, walk_of, BeginsIn, SomeSmallBegins, word_is_sp, sp_among, IsPlain, StarsLaid, laid_in, BytesLaid}
use Rattle.write_passes.proofs.PlacedLaws.{judged_ends, judged_rest, not_refused}
use Rattle.write_passes.proofs.CheckLaws.{element_value, value_is, judged_field}

-- ---- as many fields are starred as there are elements, at most

field_counts : (vs : List Value) (g : Settings) (w : ℕ) (what : What) (is : List ℕ) → cond (starred_of vs g w what) 1 0 + length is ≤ length (place_of what is)
field_counts vs g w (element i f) is = go (field_starred g f w (value_at vs i))
  where
    go : (b : Bool) → cond b 1 0 + length is ≤ suc (length is)
    go true = omega arith
    go false = omega arith
field_counts vs g w (literal cs) is = omega arith

starred_elements : (vs : List Value) (t : Trace) → starred_in vs t ≤ length (elements_put t)
unfolding starred_in elements_put
starred_elements vs (put p t) = let h = starred_elements vs t in omega (arith, field_counts vs p.settings p.width p.what (elements_put t))
starred_elements vs (done n) = omega arith
starred_elements vs (stopped why) = omega arith

pub few_starred : (h : Sheet) (vs : List Value) (n : ℕ) → judged vs (walk h) ≡ accepted n → starred_in vs (walk h) ≤ length h.kinds
few_starred h vs n a =
    let e : length (elements_put (walk h)) ≡ length h.kinds = ap length (puts_each h n (judged_ends vs (walk h) n a)) ∙ length_numbers 0 (length h.kinds) in
    omega (arith, starred_elements vs (walk h))

-- a truth as a number, as the code counts it
pub counted : (b : Bool) → (bool_byte b ≡ cond b 1 0) × (bool_byte b ≤ 1)
counted true = (refl, omega arith)
counted false = (refl, omega arith)

-- ---- one placement

module _ (R : ℕ) (area : List ℕ) (vs : List Value) (p : Placement) (rest : Trace) (what : What) (e : p.what ≡ what) {w : ℕ} (wide : w ≡ p.width) {g : Settings} (under : g ≡ p.settings) where
  -- laying goes on after a placement
  laid_more : (buffer : List ℕ) {out : List ℕ} {at : ℕ} → at ≡ offset_of R p → out ≡ splice buffer at (characters_of area vs g w what)
      → laid R (characters area vs) (put p rest) buffer ≡ laid R (characters area vs) rest out
  unfolding laid
  laid_more buffer o h = rw (e, ← wide, ← under, ← o, ← h) refl

  -- and so does counting
  stars_more : {b : Bool} → b ≡ starred_of vs g w what → starred_in vs (put p rest) ≡ cond b 1 0 + starred_in vs rest
  unfolding starred_in
  stars_more h = rw (e, ← wide, ← under, ← h) refl

-- ---- the fold

-- after k columns, where `taken` elements are taken and so many fields were starred: what is left of the part, laid over the
-- buffer as it is, gives what the whole part gives over the buffer as it was
pub record Laying (s : code.Sheet) (covers : List Cover) (was : List ℕ) (k taken starred : ℕ) (buffer : List ℕ) (whole : Trace) (j : ℕ) (left : Trace) : Type 0 where
  pub now : Trace
  pub begins : BeginsIn s taken (drop k covers) now j left
  pub bytes : laid_in s now buffer ≡ laid_in s whole was
  pub stars : starred + starred_in (values_of s) now ≡ starred_in (values_of s) whole
  pub accepts : {n : ℕ} → judged (values_of s) whole ≡ accepted n → judged (values_of s) now ≡ accepted n

module _ (s : code.Sheet) (covers : List Cover) {was : List ℕ} {k taken starred j : ℕ} {buffer : List ℕ} {whole left : Trace} (l : k < length covers)
    (g : Laying s covers was k taken starred buffer whole j left) where
  abbrev pub at : First (given_sheet s.run s.list.elements.now s.records) s.run.chars.now taken (cover_at covers k) (drop (k + 1) covers) g.now j left
  at = begins_at covers k g.begins l

  abbrev pub c : Cover
  c = cover_at covers k

  rest_accepts : {n : ℕ} → judged (values_of s) whole ≡ accepted n → judged (values_of s) at.after ≡ accepted n
  unfolding judged
  rest_accepts {n} a = judged_rest (values_of s) at.placement.what (judged (values_of s) at.after) n (ap (judged (values_of s)) (sym at.is_put) ∙ g.accepts a)

  pub laying_field : leb literal_kind (kind_in c.word) ≡ false → FieldAt (kinds_of s.list.elements.now) taken at.placement.width c.word at.placement.what
  laying_field e = as_field s.run.chars.now (kinds_of s.list.elements.now) taken at.placement.width c.word at.placement.what e at.is.what

  -- the value of a field is not too large
  pub field_small : (e : leb literal_kind (kind_in c.word) ≡ false) {n : ℕ} → judged (values_of s) whole ≡ accepted n → field_too_large (laying_field e).f (element_value s taken) ≡ false
  field_small e {n} a =
      let f = laying_field e in
      ap (field_too_large f.f) (sym (value_is s f))
      ∙ (not_refused _ _ _ n (sym (judged_field s at.placement at.after f.is) ∙ ap (judged (values_of s)) (sym at.is_put) ∙ g.accepts a)).0

  -- its characters are laid, and its stars counted
  pub field_laid : (e : leb literal_kind (kind_in c.word) ≡ false) {out : List ℕ} {b : Bool} {n : ℕ} → out ≡ splice buffer c.at (field_characters s.list.area.now c.settings (laying_field e).f (columns_in c.word) (element_value s taken))
      → b ≡ field_starred c.settings (laying_field e).f (columns_in c.word) (element_value s taken) → n ≡ starred + cond b 1 0 → Laying s covers was (k + 1) (taken + 1) n out whole j left
  field_laid e {out} {b} {n} o q m =
      let f = laying_field e in
      let what = element taken f.f in
      record {
        now = at.after;
        begins = subst (λ (i : ℕ). BeginsIn s (taken + i) (drop (k + 1) covers) at.after j left) (takes_one c.word e) at.rest;
        bytes =
            let v = o ∙ ap (λ v. splice buffer c.at (field_characters s.list.area.now c.settings f.f (columns_in c.word) v)) (sym (value_is s f)) in
            sym (laid_more s.records.width s.list.area.now (values_of s) at.placement at.after what f.is at.is.width at.is.settings buffer at.is.at v)
            ∙ ap (λ t. laid_in s t buffer) (sym at.is_put)
            ∙ g.bytes;
        stars =
            let v = q ∙ ap (field_starred c.settings f.f (columns_in c.word)) (sym (value_is s f)) in
            let h = stars_more s.records.width s.list.area.now (values_of s) at.placement at.after what f.is at.is.width at.is.settings v in
            let i = ap (starred_in (values_of s)) at.is_put in
            omega (arith, m, h, i, g.stars);
        accepts = rest_accepts;
      }

  pub literal_inside : leb literal_kind (kind_in c.word) ≡ true → detail_in c.word + columns_in c.word ≤ length s.run.chars.now
  literal_inside e = (as_literal s.run.chars.now (kinds_of s.list.elements.now) taken at.placement.width c.word at.placement.what e at.is.what).inside

  pub literal_laid : leb literal_kind (kind_in c.word) ≡ true → {out : List ℕ} → out ≡ splice buffer c.at (take (columns_in c.word) (drop (detail_in c.word) s.run.chars.now)) → Laying s covers was (k + 1) taken starred out whole j left
  literal_laid e {out} o =
      let f = as_literal s.run.chars.now (kinds_of s.list.elements.now) taken at.placement.width c.word at.placement.what e at.is.what in
      let what = literal (take (columns_in c.word) (drop (detail_in c.word) s.run.chars.now)) in
      record {
        now = at.after;
        begins = subst (λ (n : ℕ). BeginsIn s n (drop (k + 1) covers) at.after j left) (ap (λ n. taken + n) (takes_none c.word e) ∙ omega arith) at.rest;
        bytes =
            sym (laid_more s.records.width s.list.area.now (values_of s) at.placement at.after what f.is at.is.width at.is.settings buffer at.is.at o)
            ∙ ap (λ t. laid_in s t buffer) (sym at.is_put)
            ∙ g.bytes;
        stars =
            let h = stars_more s.records.width s.list.area.now (values_of s) at.placement at.after what f.is at.is.width at.is.settings {b = false} refl in
            let i = ap (starred_in (values_of s)) at.is_put in
            omega (arith, h, i, g.stars);
        accepts = rest_accepts;
      }

-- after the last columns
module _ (s : code.Sheet) (covers : List Cover) {was : List ℕ} {k taken starred j : ℕ} {buffer : List ℕ} {whole left : Trace} (l : length covers ≤ k)
    (g : Laying s covers was k taken starred buffer whole j left) where
  pub laid_bytes : laid_in s left buffer ≡ laid_in s whole was
  laid_bytes = ap (λ t. laid_in s t buffer) (sym (begins_end covers k g.begins l).0) ∙ g.bytes

  pub laid_stars : starred + starred_in (values_of s) left ≡ starred_in (values_of s) whole
  laid_stars = ap (λ t. starred + starred_in (values_of s) t) (sym (begins_end covers k g.begins l).0) ∙ g.stars

-- ---- the whole walk, part by part

-- what covers columns afterwards, is among what covers them in the whole
in_left : {h : Sheet} {t : List ℕ} {i j : ℕ} {cs : List Cover} {whole left : Trace} {p : Placement} → Begins h t i cs whole j left → In p left → In p whole
in_left Begins.none o = o
in_left (Begins.next c b) o = In.there (in_left b o)

-- where all the walk is under the settings at the start, so are the columns
all_plain : {h : Sheet} {t : List ℕ} {i j : ℕ} {cs : List Cover} {whole left : Trace} → Begins h t i cs whole j left → ((p : Placement) → In p whole → p.settings.signs ≡ AfterSS) → All IsPlain cs
all_plain Begins.none a = All-nil IsPlain
all_plain (Begins.next {c} {cs} {p} k b) a =
    All-cons IsPlain c cs (k.settings ∙ ap (λ (x : SignSetting). record { signs = x }) (a p In.here)) (all_plain b (λ q o. a q (In.there o)))

-- so it is where no item is SP
no_sp : (t : List ℕ) (ws : List Packed) → sp_among ws ≡ false → NoSP (map (met_in t) ws)
no_sp t [] e = All-nil IsNoSP
no_sp t (w ∷ ws) e =
    let o = or_parts (word_is_sp (word_in w)) (sp_among ws) e in
    All-cons IsNoSP (met_in t w) (map (met_in t) ws) (go (word_in w) o.0) (no_sp t ws o.1)
  where
    go : (x : Word) → word_is_sp x ≡ false → met_of t x ≡ Met.setting SP → ⊥
    go (word.I n) u q = let z : ⊥ = cc in z
    go (word.F n d) u q = let z : ⊥ = cc in z
    go (word.L n) u q = let z : ⊥ = cc in z
    go word.A u q = let z : ⊥ = cc in z
    go (word.Aw n) u q = let z : ⊥ = cc in z
    go (word.X n) u q = let z : ⊥ = cc in z
    go (word.T n) u q = let z : ⊥ = cc in z
    go word.Slash u q = let z : ⊥ = cc in z
    go (word.Literal a n) u q = let z : ⊥ = cc in z
    go (word.Setting SP) u q = let z : ⊥ = cc in z
    go (word.Setting SS) u q = let z : ⊥ = cc in z
    go (word.Setting S) u q = let z : ⊥ = cc in z

pub columns_plain : (s : code.Sheet) {i j : ℕ} {cs : List Cover} {whole left : Trace} → sp_among s.run.words.now ≡ false → ((p : Placement) → In p whole → In p (walk_of s)) → BeginsIn s i cs whole j left → All IsPlain cs
columns_plain s e within b =
    let items = no_sp s.run.chars.now s.run.words.now e in
    all_plain b (λ p o. after_ss_throughout (given_sheet s.run s.list.elements.now s.records) items (All-drop IsNoSP s.run.back _ items) p (within p o))

-- what is left after the first columns of an accepted walk is accepted
pub left_accepted : {h : Sheet} {t : List ℕ} {i j : ℕ} {cs : List Cover} {whole left : Trace} (vs : List Value) {n : ℕ} → Begins h t i cs whole j left → judged vs whole ≡ accepted n → judged vs left ≡ accepted n
unfolding judged
left_accepted vs Begins.none a = a
left_accepted vs {n} (Begins.next {p} {whole} c b) a = left_accepted vs b (judged_rest vs p.what (judged vs whole) n a)

-- what is left of the walk is part of it and accepted, and laid over the buffer as it is gives what the whole gives
pub record LayingOn (s : code.Sheet) (was : List ℕ) (w : Walk) (starred : ℕ) (buffer : List ℕ) : Type 0 where
  pub goes_by : GoesBy w s.run s.list.elements.now s.records
  pub within : (p : Placement) → In p (left_of w) → In p (walk_of s)
  pub n : ℕ
  pub accepts : judged (values_of s) (left_of w) ≡ accepted n
  pub bytes : laid_in s (left_of w) buffer ≡ laid_in s (walk_of s) was
  pub stars : starred + starred_in (values_of s) (left_of w) ≡ starred_in (values_of s) (walk_of s)

module _ (s : code.Sheet) {was : List ℕ} {w : Walk} {starred : ℕ} {buffer : List ℕ} (g : LayingOn s was w starred buffer) {v : Walk} {p : Placed} {covers : List Cover} (as_placed : PlacedAs w v p covers) where
  abbrev pub part : PlacedIn s.run s.list.elements.now s.records w.state.taken (left_of w) v p covers
  part = placed_in g.goes_by as_placed

  module _ {first : ℕ} (f : first ≡ w.state.taken) where
    begins : BeginsIn s first (take p.count covers) (left_of w) part.taken part.left
    begins = rw f part.begins

    pub part_plain : sp_among s.run.words.now ≡ false → All IsPlain (take p.count covers)
    part_plain e = columns_plain s e g.within begins

    pub part_begins : SomeSmallBegins s first (take p.count covers)
    part_begins = record { whole = left_of w; taken = part.taken; left = part.left; begins = begins; n = g.n; accepts = g.accepts }

    module _ (more : ℕ) (out : List ℕ)
        (stars : StarsLaid s first (take p.count covers) more) (bytes : BytesLaid s first (take p.count covers) buffer out) where
      left_stars : starred + more + starred_in (values_of s) part.left ≡ starred_in (values_of s) (walk_of s)
      left_stars = let k = stars part.taken (left_of w) part.left begins in omega (arith, k, g.stars)

      left_bytes : laid_in s part.left out ≡ laid_in s (walk_of s) was
      left_bytes = bytes part.taken (left_of w) part.left begins ∙ g.bytes

      -- no more than there are elements
      pub few_so_far : {m : ℕ} → judged (values_of s) (walk_of s) ≡ accepted m → starred + more ≤ length s.list.elements.now
      few_so_far {m} a =
          let k : length (kinds_of s.list.elements.now) ≡ length s.list.elements.now = length-map _ _ in
          omega (arith, left_stars, few_starred (given_sheet s.run s.list.elements.now s.records) (values_of s) m a, k)

      pub goes_on_laying : p.stop ≡ stop.Full → LayingOn s was v (starred + more) out
      goes_on_laying e =
          let o = (stops_full part e).0 in
          record {
            goes_by = o.goes_by;
            within = λ q i. g.within q (in_left part.begins (subst (In q) (sym o.is_left) i));
            n = g.n;
            accepts = ap (judged (values_of s)) (sym o.is_left) ∙ left_accepted (values_of s) part.begins g.accepts;
            bytes = ap (λ t. laid_in s t out) (sym o.is_left) ∙ left_bytes;
            stars = ap (λ t. starred + more + starred_in (values_of s) t) (sym o.is_left) ∙ left_stars;
          }

      -- where nothing is left
      pub all_laid : (p.stop ≡ stop.Full → ⊥) → (starred + more ≡ starred_in (values_of s) (walk_of s)) × (out ≡ laid_in s (walk_of s) was)
      unfolding laid starred_in
      all_laid u = go p.stop refl
        where
          go : (k : Stop) → p.stop ≡ k → (starred + more ≡ starred_in (values_of s) (walk_of s)) × (out ≡ laid_in s (walk_of s) was)
          go (stop.Ends n) e =
              let k = stops_ends part e in
              let i = ap (starred_in (values_of s)) k in
              (omega (arith, left_stars, i), sym (ap (λ t. laid_in s t out) k) ∙ left_bytes)
          go (stop.Refused why) e =
              let k = stops_refused part e in
              let i = ap (starred_in (values_of s)) k in
              (omega (arith, left_stars, i), sym (ap (λ t. laid_in s t out) k) ∙ left_bytes)
          go stop.Full e = absurd (u e)
