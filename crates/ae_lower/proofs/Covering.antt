-- Sections of cells one behind another.
use Rattle.std.proofs.Common.{ℕ, zero, suc, ◌≡◌, ◌+◌, ◌<◌, ◌≤◌, inl, inr, List, [], ◌∷◌, ◌++◌, length, map, Some, slice_get, get_or, arith, refl, ap, sym, ◌∙◌, subst}
use Rattle.std.specs.Option.{option_map}
use Rattle.std.proofs.lemmas.Bool.{cases_eq, cases_lt}
use Rattle.std.proofs.lemmas.List.{length-map}
use Rattle.std.proofs.lemmas.Option.{none-some, same_Some, slice_get-get_or, slice_get-map, slice_get_within}
use Rattle.ae_netlist.specs.declared.cell.NetId.{NetId}
use Rattle.ae_netlist.specs.declared.cell.Cell.TheVariants.{Const}
use Rattle.ae_netlist.specs.declared.cell.SizedCell.{SizedCell}
use Rattle.ae_netlist.proofs.Gets.{get_left, get_push_cases, get_pushed}
use Rattle.ae_tidy.specs.Places.{AreCut, AreMarks, AreTraced, made_of}
use Rattle.ae_rewrite.specs.StProgramTree.{StFuncTree, StNodeTree, body}
use Rattle.ae_lower.specs.declared.sections.Section.{Section}
use Rattle.ae_lower.specs.Sections.{AreCopied, AreCovered, AreSections, AreThoseBefore, BeginsSection, CallsLead, HaveSections, IsCopiedSection, IsLastPlace, IsSectionFor, IsSectionOf, IsSectionWithin, first_cell}

-- ---- one section more

pub begins : (s : Section) (old kept new : List Section) → AreThoseBefore s.cell old kept → new ≡ kept ++ s ∷ [] → AreSections s.cell old
    → BeginsSection s old new
begins s old kept new b is a = subst (BeginsSection s old) (sym is) (record {
  are = record {
    within = λ i t h. elim (get_push_cases kept s i t h) [
      | inl w ↦ (let l = (b.each i t w.0).1 in omega (arith, l))
      | inr w ↦ subst (λ (x : Section). x.cell ≤ s.cell) w.1 (omega arith)
    ];
    rising = λ i j t u l h g. elim (get_push_cases kept s j u g) [
      | inl w ↦ elim (get_push_cases kept s i t h) [
        | inl v ↦ a.rising i j t u l (b.each i t v.0).0 (b.each j u w.0).0
        | inr v ↦ absurd (let z : ⊥ = omega (arith, v.0, w.1, l) in z)
      ]
      | inr w ↦ elim (get_push_cases kept s i t h) [
        | inl v ↦ subst (λ (x : Section). t.cell < x.cell) w.1 (b.each i t v.0).1
        | inr v ↦ absurd (let z : ⊥ = omega (arith, v.0, w.0, l) in z)
      ]
    ];
  };
  stay = λ cell t l is_in.
      let early : t.cell < s.cell = omega (arith, is_in.begun, l) in
      record {
        index = is_in.index;
        found = get_left kept (s ∷ []) is_in.index t (b.all is_in.index t is_in.found early);
        begun = is_in.begun;
        last = λ j u lj g. elim (get_push_cases kept s j u g) [
          | inl w ↦ is_in.last j u lj (b.each j u w.0).0
          | inr w ↦ subst (λ (x : Section). cell < x.cell) w.1 l
        ];
      };
  own = λ cell l. record {
    index = length kept;
    found = get_pushed kept s;
    begun = l;
    last = λ j u lj g. (let w : j < length (kept ++ s ∷ []) = slice_get_within (kept ++ s ∷ []) j u g in absurd (past j u lj g));
  };
})
  where
    past : (j : ℕ) (u : Section) → length kept < j → slice_get (kept ++ s ∷ []) j ≡ Some u → ⊥
    past j u lj g = elim (get_push_cases kept s j u g) [ inl w ↦ omega (arith, w.1, lj) | inr w ↦ omega (arith, w.0, lj) ]

-- ---- cells that are added

pub sections_none : {Of : Section → Type 0} (n : ℕ) (old : List Section) → AreSections n old → HaveSections Of n n old old
sections_none n old a = record { are = a; stay = λ cell s l h. h; own = record { each = λ cell f l. absurd (none_between n cell f l) } }
  where
    none_between : (n cell : ℕ) → n ≤ cell → cell < n → ⊥
    none_between n cell f l = omega (arith, f, l)

-- a section begins, and cells are added
pub sections_begun : {Of : Section → Type 0} (from to : ℕ) (s : Section) (old new : List Section) → (AreSections s.cell old → BeginsSection s old new)
    → s.cell ≡ from → from ≤ to → AreSections from old → Of s → HaveSections Of from to old new
sections_begun from to s old new begun at l was is =
    let b : BeginsSection s old new = begun (subst (λ (n : ℕ). AreSections n old) (sym at) was) in
    record {
      are = record { within = λ i t h. (let w : t.cell ≤ s.cell = b.are.within i t h in omega (arith, w, at, l)); rising = b.are.rising };
      stay = λ cell t below h. b.stay cell t (omega (arith, below, at)) h;
      own = record { each = λ cell f below. (s, b.own cell (omega (arith, f, at)), is) };
    }

pub sections_trans : {Of : Section → Type 0} (from mid to : ℕ) (old middle new : List Section) → from ≤ mid → HaveSections Of from mid old middle
    → HaveSections Of mid to middle new → HaveSections Of from to old new
sections_trans from mid to old middle new l a b = record {
  are = b.are;
  stay = λ cell s below h. b.stay cell s (omega (arith, below, l)) (a.stay cell s below h);
  own = record {
    each = λ cell f below. elim (cases_lt cell mid) [
      | inl early ↦ (let own = a.own.each cell f early in (own.0, b.stay cell own.0 early own.1, own.2))
      | inr late ↦ b.own.each cell late below
    ];
  };
}

pub sections_of : {P Q : Section → Type 0} (from to : ℕ) (old new : List Section) → ((s : Section) → P s → Q s) → HaveSections P from to old new
    → HaveSections Q from to old new
sections_of from to old new more a = record {
  are = a.are;
  stay = a.stay;
  own = record { each = λ cell f l. (let own = a.own.each cell f l in (own.0, own.1, more own.0 own.2)) };
}

-- ---- whose section it is

pub own_section : (instances : List StFuncTree) (k j : ℕ) (f : StFuncTree) (s : Section) → slice_get instances k ≡ Some f → j ≤ length f.nodes → s.instance ≡ k
    → s.node ≡ j → IsSectionFor instances k j s
own_section instances k j f s found there ei en = record { path = []; leads = (ei, en, f, found, there) }

pub called_section : (instances : List StFuncTree) (k j m : ℕ) (f : StFuncTree) (n : StNodeTree) (s : Section) → slice_get instances k ≡ Some f
    → slice_get f.nodes j ≡ Some n → n.op ≡ body m → IsSectionWithin instances m s → IsSectionFor instances k j s
called_section instances k j m f n s found at calls is = record { path = is.node ∷ is.is.path; leads = (f, n, m, found, at, calls, is.is.leads) }

leads_as : (instances : List StFuncTree) (k j : ℕ) (path : List ℕ) (s t : Section) → t.instance ≡ s.instance → t.node ≡ s.node → CallsLead instances k j path s
    → CallsLead instances k j path t
leads_as instances k j [] s t ei en h = (ei ∙ h.0, en ∙ h.1, h.2, h.3, h.4)
leads_as instances k j (i ∷ path) s t ei en h = (h.0, h.1, h.2, h.3, h.4, h.5, leads_as instances h.2 i path s t ei en h.6)

-- ---- the copy of a netlist

pub sections_empty : (n : ℕ) → AreSections n []
sections_empty n = record { within = λ i s h. absurd (none-some s h); rising = λ i j s t l h g. absurd (none-some s h) }

pub copied_none : (sections : List Section) (places : List ℕ) → AreCopied sections places 0 []
copied_none sections places = record {
  each = λ cell i place s is f. absurd (let l = is.first in let z : ⊥ = omega (arith, l) in z);
  are = λ i place l f. sections_empty place;
}

pub sections_wider : (n m : ℕ) (sections : List Section) → n ≤ m → AreSections n sections → AreSections m sections
sections_wider n m sections l a = record { within = λ i s h. (let w : s.cell ≤ n = a.within i s h in omega (arith, w, l)); rising = a.rising }

pub copied_more : (sections copied new : List Section) (places : List ℕ) (cells all count place : ℕ) (s begun : Section) → AreMarks cells all places
    → slice_get places count ≡ Some place → slice_get sections count ≡ Some s
    → begun ≡ record { cell = place; instance = s.instance; node = s.node } → BeginsSection begun copied new → AreCopied sections places count copied
    → AreCopied sections places (count + 1) new
copied_more sections copied new places cells all count place s begun marks here at is b was = record {
  each = λ cell i p t last f. elim (cases_eq i count) [
    | inl e ↦
        let same_place : p ≡ place = same_Some p place (sym last.found ∙ (ap (slice_get places) e ∙ here)) in
        let same : t ≡ s = same_Some t s (sym f ∙ (ap (slice_get sections) e ∙ at)) in
        let own : IsSectionOf new cell begun = b.own cell (rw (is, ← same_place) last.begun) in
        rw (same_place, same, ← is) own
    | inr ne ↦
        let early : i < count = (let l = last.first in omega (arith, l, ne)) in
        let lt : cell < place = last.last count place early (omega arith) here in
        let old = was.each cell i p t (record {
          found = last.found;
          first = early;
          begun = last.begun;
          last = λ j o l lj g. last.last j o l (omega (arith, lj)) g;
        }) f in
        b.stay cell _ (rw is lt) old
  ];
  are = λ i p l f. sections_wider place p new (marks.rising count i place p (omega (arith, l)) here f)
      (let a : AreSections begun.cell new = b.are in rw is at a);
}

pub copied_all : (made : List NetId) (sections copied : List Section) (places : List ℕ) (m : ℕ) (own : NetId) → AreCut made (map first_cell sections) places
    → length places ≡ length sections → AreCopied sections places (length sections) copied
    → slice_get made m ≡ Some own → IsCopiedSection sections copied own.0 m
copied_all made sections copied places m own cut long c here = record {
  each = λ s is.
      let w : is.index < length sections = slice_get_within sections is.index s is.found in
      let place : ℕ = get_or places is.index 0 in
      let fp : slice_get places is.index ≡ Some place = slice_get-get_or places is.index 0 (omega (arith, w, long)) in
      let section : Section = record { cell = place; instance = s.instance; node = s.node } in
      let first : IsLastPlace places (length sections) m is.index place = record {
        found = fp;
        first = w;
        begun = elim (cases_lt m place) [
          | inr le ↦ le
          | inl l ↦ absurd (let b : own.0 < s.cell = (cut.each is.index s.cell place (cell_at is.index s is.found) fp).before.each m own l here in
              let z : ⊥ = omega (arith, b, is.begun) in z)
        ];
        last = λ j o l lj g.
            let t : Section = get_or sections j s in
            let ft : slice_get sections j ≡ Some t = slice_get-get_or sections j s lj in
            let late : own.0 < t.cell = is.last j t l ft in
            elim (cases_lt m o) [
              | inl lt ↦ lt
              | inr b ↦ absurd (let z : t.cell ≤ own.0 = (cut.each j t.cell o (cell_at j t ft) g).behind m own b here in
                  let bad : ⊥ = omega (arith, z, late) in bad)
            ];
      } in
      (section, c.each m is.index place s first is.found, refl, refl);
}
  where
    cell_at : (i : ℕ) (s : Section) → slice_get sections i ≡ Some s → slice_get (map first_cell sections) i ≡ Some s.cell
    cell_at i s f = slice_get-map first_cell sections i ∙ ap (option_map first_cell) f

pub cells_marks : (cells : ℕ) (sections : List Section) → AreSections cells sections → AreMarks cells (length sections) (map first_cell sections)
cells_marks cells sections a = record {
  long = length-map sections first_cell;
  within = λ i m h. (let s = section_at i m h in let l : s.0.cell ≤ cells = a.within i s.0 s.1 in omega (arith, l, s.2));
  rising = λ i j m n l h g.
      let s = section_at i m h in
      let t = section_at j n g in
      elim (cases_lt i j) [
        | inl lt ↦ (let r : s.0.cell < t.0.cell = a.rising i j s.0 t.0 lt s.1 t.1 in omega (arith, r, s.2, t.2))
        | inr b ↦
            let e : i ≡ j = omega (arith, l, b) in
            let same : m ≡ n = same_Some m n (sym h ∙ (ap (slice_get (map first_cell sections)) e ∙ g)) in
            omega (arith, same)
      ];
}
  where
    section_at : (i m : ℕ) → slice_get (map first_cell sections) i ≡ Some m → (s : Section) × (slice_get sections i ≡ Some s) × (m ≡ s.cell)
    section_at i m h =
        let w : i < length (map first_cell sections) = slice_get_within (map first_cell sections) i m h in
        let d : Section = record { cell = 0; instance = 0; node = 0 } in
        let f : slice_get sections i ≡ Some (get_or sections i d) = slice_get-get_or sections i d (omega (arith, w, length-map sections first_cell)) in
        (get_or sections i d, f, same_Some m (get_or sections i d).cell (sym h ∙ (slice_get-map first_cell sections i ∙ ap (option_map first_cell) f)))

-- a cell of the copy does not stand behind the one that it is made of
not_behind : (made : ℕ → ℕ) (count : ℕ) → ((i j : ℕ) → i < j → j < count → made i < made j) → (m : ℕ) → m < count → m ≤ made m
not_behind made count rising zero l = omega arith
not_behind made count rising (suc m) l =
    let before : m ≤ made m = not_behind made count rising m (omega (arith, l)) in
    let next : made m < made (suc m) = rising m (suc m) (omega arith) l in
    omega (arith, before, next)

pub covered_copied : (instances : List StFuncTree) (k from : ℕ) (old new : List SizedCell) (made : List NetId) (sections copied : List Section)
    → AreTraced old new made → AreCovered (IsSectionWithin instances k) from (length old) sections
    → ((m : ℕ) (own : NetId) → slice_get made m ≡ Some own → IsCopiedSection sections copied own.0 m)
    → AreCovered (IsSectionWithin instances k) from (length new) copied
covered_copied instances k from old new made sections copied traced covered same = record {
  each = λ m f l.
      let own : NetId = get_or made m (record { 0 = 0 }) in
      let here : slice_get made m ≡ Some own = slice_get-get_or made m (record { 0 = 0 }) (omega (arith, l, traced.long)) in
      let image : SizedCell = get_or new m none in
      let source = traced.are.each m image (slice_get-get_or new m none l) in
      let within : own.0 < length old = slice_get_within old own.0 source.sized source.found in
      let late : m ≤ own.0 = not_behind (made_of made) (length new) traced.are.rising m l in
      let s = covered.each own.0 (omega (arith, f, late)) within in
      let t = (same m own here).each s.0 s.1 in (
        t.0,
        t.1,
        record {
          node = s.2.node;
          is = record { path = s.2.is.path; leads = leads_as instances k s.2.node s.2.is.path s.0 t.0 t.2 t.3 s.2.is.leads };
        },
      );
}
  where
    none : SizedCell
    none = record { width = 0; cell = Const 0 }
