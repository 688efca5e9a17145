-- The head of a clause that fits: its predicate, and what is known of it before it is matched.
use Rattle.std.proofs.Common.{◌≡◌, ◌∙◌, ◌≤◌, ◌<◌, ℕ, ◌-◌, List, [], ◌∷◌, map, Bool, true, false, Option, Some, None, ap, refl, sym, subst, arith, true≢false}
use Rattle.std.specs.Prelude.{nat_eq, nat_lt, ◌&&◌, is_some, slice_get, slice_index_or, unwrap_or}
use Rattle.std.proofs.lemmas.Bool.{lt-ltb}
use Rattle.lp_calculus.specs.Types.{Ty, arrow}
use Rattle.lp_calculus.specs.Term.{Term, Atom, index, atom, abs, app, constant, integer, text, eigen, logic, param}
use Rattle.lp_calculus.specs.Typing.{Scheme, o_type, HasType}
use Rattle.lp_calculus.specs.Spine.{head_of}
use Rattle.lp_model.specs.Flatten.{ends_in_o, heads_clauses, is_clause_head}
use Rattle.lp_standard.specs.Constants.{is_declared}
use Rattle.lp_code.specs.declared.record.RecordHead.{RecordHead}
use Rattle.lp_code.specs.Symbolic.{Built, held, whole, term_in}
use Rattle.lp_code.specs.States.{State, Home}
use Rattle.lp_code.specs.Denote.{heads, is_known_head, head_passes, is_all_variable}
use Rattle.lp_gen.specs.Sources.{types_by, IsKnownType}
use Rattle.lp_gen.specs.declared.emitter.Emitter.{Emitter}
use Rattle.lp_gen.specs.Steps.{Seen, Around, level_in, at_level}
use Rattle.lp_gen.specs.inner.TermLaw.{IsSeen, AllLoose, level_term, with_variables}
use Rattle.lp_gen.specs.inner.Heading.{PredicateStands, predicate_of, level_register, seen_register, IsPredicate, IsHeadAtom}
use Rattle.lp_gen.specs.inner.BodyLaw.{HeadFits}
use Rattle.lp_gen.specs.inner.Recorded.{HeadWritten, key_in, first_key_of}
use Rattle.lp_gen.proofs.BodyParts.{loose_at}

pub head_predicate : (K : ℕ → List Ty → Ty) (e e' : Emitter) (a a' : Around) (p : Option RecordHead) (t : Term) → HeadWritten K e e' a a' p (Some t) → p ≡ Some (predicate_of a (head_of t))
head_predicate K e e' a a' None t x = absurd x
head_predicate K e e' a a' (Some p) t x = ap (λ q. Some q) x.predicate_is

-- the type of a variable that is a predicate ends in `o`
ends_at : (τ : Atom → Option Ty) (Γ : List Ty) (t : Term) (T : Ty) (j : ℕ) → HasType τ Γ t T → ends_in_o T ≡ true → head_of t ≡ index j → (U : Ty) × (slice_get Γ j ≡ Some U) × (ends_in_o U ≡ true)
ends_at τ Γ (index i) T j x e h = (T, (let same : i ≡ j = cc in ap (slice_get Γ) (sym same)) ∙ x, e)
ends_at τ Γ (atom s) T j x e h = absurd (cc)
ends_at τ Γ (abs b) T j x e h = absurd (cc)
ends_at τ Γ (app t u) T j (A, x, y) e h = ends_at τ Γ t (arrow A T) j x e h

seen_there : (a : Around) (Γ : List Ty) (Q : ℕ → Type 0) (t : Term) (j : ℕ) → AllLoose Q 0 t → head_of t ≡ index j → Q j
seen_there a Γ Q (index i) j x h = (let same : i ≡ j = cc in subst Q same (let z : i - 0 ≡ i = omega arith in subst Q z (x (omega arith))))
seen_there a Γ Q (atom s) j x h = absurd (cc)
seen_there a Γ Q (abs b) j x h = absurd (cc)
seen_there a Γ Q (app t u) j x h = seen_there a Γ Q t j x.0 h

-- what is a predicate
is_predicate : (D : ℕ → Option Scheme) (B : List Bool) (u : Term) → is_clause_head D B u ≡ true → IsPredicate u
is_predicate D B (index i) e = tt
is_predicate D B (atom (constant c ts)) e = tt
is_predicate D B (atom (integer z)) e = absurd (true≢false (sym e))
is_predicate D B (atom (text s)) e = absurd (true≢false (sym e))
is_predicate D B (atom (eigen k)) e = absurd (true≢false (sym e))
is_predicate D B (atom (logic x l)) e = absurd (true≢false (sym e))
is_predicate D B (atom (param k T)) e = absurd (true≢false (sym e))
is_predicate D B (abs b) e = absurd (true≢false (sym e))
is_predicate D B (app t u) e = absurd (true≢false (sym e))

module _ (h : Home) (vars : ℕ) (Γ : List Ty) (B : List Bool) (a : Around) (Q : ℕ → Type 0) (t : Term) (fits : HeadFits h vars Γ B Q t) (seen : (i : ℕ) → Q i → IsSeen a Γ i)
    (set : (j l : ℕ) (v : Seen) → slice_index_or B j false ≡ true → level_in a j ≡ Some l → at_level a l ≡ Some v → v.is_set ≡ true) where
  pub head_atom : ((i : ℕ) (U : Ty) → slice_get Γ i ≡ Some U → IsKnownType h.tables.kinds vars U) → IsHeadAtom h vars Γ a t
  head_atom known = record {
    typed = fits.typed;
    normal = fits.normal;
    known = fits.known;
    positive = fits.positive;
    predicate = is_predicate h.tables.constants B (head_of t) fits.headed;
    captured = λ j e l v at found. set j l v (ap (is_clause_head h.tables.constants B) (sym e) ∙ fits.headed) at found;
    indices = known;
    seen = loose_at (IsSeen a Γ) Q 0 0 0 t refl (λ i q le. let z : i ≡ i - 0 = omega arith in subst (IsSeen a Γ) z (seen i q)) fits.loose;
  }

  -- where the variables that the record starts with stand, and those of a `pi` are such
  module _ (n : ℕ) (σ : ℕ → Term) (s : State) (stands : (j l : ℕ) (v : Seen) → slice_index_or B j false ≡ true → level_in a j ≡ Some l → at_level a l ≡ Some v →
      (v.register < h.self.captured) × (held s.now.terms v.register ≡ Some (whole (σ l) v.of)) × (is_all_variable h.records (σ l) ≡ true)) (low : h.self.captured ≤ n) where
    abbrev Fine : RecordHead → Type 0
    Fine p = PredicateStands (Some p) n s × (heads h s p ≡ true) × (is_known_head h p ≡ true)

    fine_index : (j : ℕ) → head_of t ≡ index j → Fine (predicate_of a (index j))
    fine_index j e =
        let is : slice_index_or B j false ≡ true = ap (is_clause_head h.tables.constants B) (sym e) ∙ fits.headed in
        let z = seen j (seen_there a Γ Q t j fits.loose e) in
        let v = z.1 in
        let w = stands j z.0 v is z.2 z.3 in
        let low_v = w.0 in
        let ends = ends_at (types_by h.tables) Γ t o_type j fits.typed refl e in
        let of : ends.0 ≡ v.of = same_type ends.0 v.of (sym ends.1 ∙ z.4) in
        let at : term_in s.now v.register ≡ whole (σ z.0) v.of = ap (λ o. unwrap_or {T = Built} o (record { term = index 0; type = o_type; loose = [] })) w.1 in
        subst Fine (sym (ap (level_register a) z.2 ∙ ap seen_register z.3)) (
          (omega (arith, low_v, low), whole (σ z.0) v.of, w.1),
          (λ i. (lt-ltb v.register h.self.captured low_v i && is_all_variable h.records (at i).term) && ends_in_o (at i).type) ∙
              (λ i. (true && w.2 i) && ends_in_o (sym of i)) ∙ (λ i. (true && true) && ends.2 i),
          refl,
        )
      where
        same_type : (T U : Ty) → ◌≡◌ {A = Option Ty} (Some T) (Some U) → T ≡ U
        same_type T U q = cc

    both : (c d : Bool) → (c && d) ≡ true → (c ≡ true) × (d ≡ true)
    both true d e = (refl, e)
    both false d e = absurd (true≢false (sym e))

    known_scheme : (o : Option Scheme) → heads_clauses o ≡ true → is_some o ≡ true
    known_scheme None e = absurd (true≢false (sym e))
    known_scheme (Some c) e = refl

    fine_head : (u : Term) → head_of t ≡ u → Fine (predicate_of a u)
    fine_head (index j) e = fine_index j e
    fine_head (atom (constant c ts)) e =
        let is : (is_declared c && heads_clauses (h.tables.constants c)) ≡ true = ap (is_clause_head h.tables.constants B) (sym e) ∙ fits.headed in
        (tt, is, known_scheme (h.tables.constants c) (both (is_declared c) (heads_clauses (h.tables.constants c)) is).1)
    fine_head (atom (integer z)) e = absurd (true≢false (sym fits.headed ∙ ap (is_clause_head h.tables.constants B) e))
    fine_head (atom (text x)) e = absurd (true≢false (sym fits.headed ∙ ap (is_clause_head h.tables.constants B) e))
    fine_head (atom (eigen k)) e = absurd (true≢false (sym fits.headed ∙ ap (is_clause_head h.tables.constants B) e))
    fine_head (atom (logic x l)) e = absurd (true≢false (sym fits.headed ∙ ap (is_clause_head h.tables.constants B) e))
    fine_head (atom (param k T)) e = absurd (true≢false (sym fits.headed ∙ ap (is_clause_head h.tables.constants B) e))
    fine_head (abs b) e = absurd (true≢false (sym fits.headed ∙ ap (is_clause_head h.tables.constants B) e))
    fine_head (app u v) e = absurd (true≢false (sym fits.headed ∙ ap (is_clause_head h.tables.constants B) e))

    -- the record's predicate
    pub predicate_fine : (p : Option RecordHead) → p ≡ Some (predicate_of a (head_of t)) → PredicateStands p n s × (head_passes (heads h s) p ≡ true) × (head_passes (is_known_head h) p ≡ true)
    predicate_fine p e = subst (λ q. PredicateStands q n s × (head_passes (heads h s) q ≡ true) × (head_passes (is_known_head h) q ≡ true)) (sym e) (fine_head (head_of t) refl)

-- keys with variables for indices

key_level : (σ : ℕ → Term) (o : Option ℕ) → ((l : ℕ) → key_in (σ l) ≡ None) → key_in (level_term σ o) ≡ None
key_level σ None f = refl
key_level σ (Some l) f = f l

key_with : (σ : ℕ → Term) (a : Around) (t : Term) → ((l : ℕ) → key_in (σ l) ≡ None) → key_in (with_variables σ a 0 t) ≡ key_in t
key_with σ a (index i) f = ap (λ c. key_in (Rattle.std.specs.Prelude.if◌then◌else◌ c (index i) (level_term σ (level_in a (i - 0)))))
    (Rattle.std.proofs.lemmas.Bool.le-ltb i 0 (omega arith)) ∙ key_level σ (level_in a (i - 0)) f
key_with σ a (atom s) f = refl
key_with σ a (abs b) f = refl
key_with σ a (app t u) f = key_with σ a t f

pub first_key_with : (σ : ℕ → Term) (a : Around) (ts : List Term) → ((l : ℕ) → key_in (σ l) ≡ None) → first_key_of (map (with_variables σ a 0) ts) ≡ first_key_of ts
first_key_with σ a [] f = refl
first_key_with σ a (t ∷ ts) f = key_with σ a t f
