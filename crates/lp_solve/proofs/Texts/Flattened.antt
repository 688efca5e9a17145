-- The clauses of the program of texts, and a query that is asked on it, flatten by the declared types of the program.
use Rattle.std.proofs.Common.{◌≡◌, ℕ, zero, suc, ◌+◌, ◌-◌, ◌<◌, ◌≤◌, List, [], ◌∷◌, ◌++◌, map, get_or, Option, Some, None, Bool, true, false, true≢false, refl, sym, ap, ◌∙◌, inl, inr, arith, nat_eq}
use Rattle.std.specs.Prelude.{◌⊎◌, ◌&&◌, not, if◌then◌else◌, option_map, slice_get}
use Rattle.std.proofs.lemmas.Bool.{cases_lt, le-leb, le-ltb, leb-true, ne_eqb}
use Rattle.std.proofs.lemmas.Option.{slice_get_within, get_or_from_slice_get}
use Rattle.lp_lemmas.specs.Each.{EachOf}
use Rattle.lp_lemmas.proofs.Booleans.{and_true_left, and_true_right}
use Rattle.lp_lemmas.proofs.Each.{each_append, each_map}
use Rattle.lp_calculus.specs.Types.{Ty, var, param as type_param, con, arrow}
use Rattle.lp_calculus.specs.Term.{Term, index, atom, abs, app, constant, integer, text, eigen, logic, param}
use Rattle.lp_calculus.specs.Typing.{Scheme}
use Rattle.lp_calculus.specs.Spine.{head_of}
use Rattle.lp_standard.specs.Constants.{is_declared}
use Rattle.lp_standard.specs.Connectives.{Connective, connective_of}
use Rattle.lp_standard.specs.Connectives as connective
use Rattle.lp_standard.specs.Schemes.{entry, standard_schemes}
use Rattle.lp_syntax.specs.declared.text.RawTerm.{RawTerm}
use Rattle.lp_term.specs.Mapped.{mapped, mapped_type, mapped_types}
use Rattle.lp_term.specs.Nodes.{Nodes}
use Rattle.lp_model.specs.Flat.{Clause, Clauses, all_of, clause_list}
use Rattle.lp_model.specs.Flatten.{ClauseFormula, ends_in_o, flatten, heads_clauses, is_clause_head, is_goal_head}
use Rattle.lp_model.specs.Proofs.{AreFlattened, Declared}
use Rattle.lp_model.specs.Readings.{formula_of}
use Rattle.lp_model.specs.declared.program.ClauseFormula as code
use Rattle.lp_sig.specs.declared.entries.ConstantEntry.{ConstantEntry}
use Rattle.lp_sig.specs.declared.signature.Signature.{Signature}
use Rattle.lp_infer.specs.Texts.{entry_scheme}
use Rattle.lp_module.specs.Clauses.{IsClause, IsFormed}
use Rattle.lp_module.specs.Form.{Part, has_form_by}
use Rattle.lp_module.specs.Joined.{IsNumberedSignature}
use Rattle.lp_module.specs.Program.{Copy, map_of, in_copy, clauses_in, clauses_of}
use Rattle.lp_module.specs.Schemes.{declared_schemes}
use Rattle.lp_module.specs.declared.module.Module.{Module}
use Rattle.lp_module.proofs.HighNumbers.{IsHigh}
use Rattle.lp_build.specs.Meant.{AreModules}
use Rattle.lp_build.specs.declared.sources.Sources.{Sources}
use Rattle.lp_build.proofs.RenumberedFlat.{flatten_to, moved_clauses}
use Rattle.lp_build.proofs.RenumberedTerms.{KeepsLanguage, moving}
use Rattle.lp_solve.specs.Schemes.{DeclaresCopy, DeclaresSeen}
use Rattle.lp_solve.proofs.Texts.Fits.{both}
use Rattle.lp_solve.proofs.Texts.Flattens.{clause_flattens, once_flattened}
use Rattle.lp_solve.proofs.Texts.Program.{IsFair, each_clause, member_each, module_at}

not_kept : (x y : Bool) → (x ≡ true → y ≡ true) → not x ≡ false → not y ≡ false
not_kept true y h e = ap not (h refl)
not_kept false y h e = absurd (true≢false e)

-- a formula that has its form has it by other declared types too, by which the constants that head clauses still do
module _ (d e : ℕ → Option Scheme) (more : (c : ℕ) → (is_declared c && heads_clauses (d c)) ≡ true → heads_clauses (e c) ≡ true) where
  head_more : (bs : List Bool) (h : Term) → is_clause_head d bs h ≡ true → is_clause_head e bs h ≡ true
  head_more bs (index i) x = x
  head_more bs (atom (constant c ts)) x = both _ _ (and_true_left (is_declared c) (heads_clauses (d c)) x) (more c x)
  head_more bs (atom (integer z)) x = x
  head_more bs (atom (text s)) x = x
  head_more bs (atom (eigen k)) x = x
  head_more bs (atom (logic y l)) x = x
  head_more bs (atom (param k T)) x = x
  head_more bs (abs b) x = x
  head_more bs (app t u) x = x

  part_more : (p : Part) (f : Connective) → has_form_by d p f ≡ true → has_form_by e p f ≡ true
  part_more p connective.Atomic x = by p.goal x
    where
      by : (g : Bool) → (if g then is_goal_head (head_of p.formula) else is_clause_head d p.binders (head_of p.formula)) ≡ true →
          (if g then is_goal_head (head_of p.formula) else is_clause_head e p.binders (head_of p.formula)) ≡ true
      by true x = x
      by false x = head_more p.binders (head_of p.formula) x
  part_more p (connective.And a b) x = x
  part_more p (connective.Implies c g) x = x
  part_more p (connective.ForAll T b) x = x
  part_more p connective.True x = x
  part_more p connective.Cut x = x
  part_more p (connective.Or a b) x = x
  part_more p (connective.Exists T b) x = x
  part_more p (connective.Not g) x = x

  pub formed_more : (goal : Bool) (n : ℕ) (t : Term) → IsFormed d goal n t → IsFormed e goal n t
  formed_more goal n t f = record {
    form = f.form;
    within = f.within;
    positive = f.positive;
    formed = λ p is. not_kept (has_form_by d p (connective_of p.formula)) (has_form_by e p (connective_of p.formula)) (part_more p (connective_of p.formula)) (f.formed p is);
  }

-- a declared type that ends in `o` does so in a copy
ends_kept : (c : Copy) → c.kinds 0 ≡ 0 → (T : Ty) → ends_in_o T ≡ true → ends_in_o (mapped_type (map_of c) T) ≡ true
ends_kept c z (arrow a b) h = ends_kept c z b h
ends_kept c z (con zero ts) h = ap (λ k. ends_in_o (con k (mapped_types (map_of c) ts))) z
ends_kept c z (con (suc k) ts) h = absurd (true≢false (sym h))
ends_kept c z (var i) h = absurd (true≢false (sym h))
ends_kept c z (type_param k) h = absurd (true≢false (sym h))

-- a declared constant that heads clauses by the types of a signature is one of its names
module _ (sig : Signature) where
  declared_name : (k : ℕ) → (is_declared k && heads_clauses (declared_schemes sig k)) ≡ true → (e : ConstantEntry) ×
      (slice_get sig.constants.items (k - 32) ≡ Some e) × (32 ≤ k) × (ends_in_o (entry_scheme sig.bank e).body ≡ true)
  declared_name k h =
      let l = leb-true 32 k (and_true_left (is_declared k) (heads_clauses (declared_schemes sig k)) h) in
      by l (slice_get sig.constants.items (k - 32)) refl
      (sym (ap (λ b. heads_clauses (if b then entry standard_schemes k else option_map (entry_scheme sig.bank) (slice_get sig.constants.items (k - 32)))) (le-ltb k 32 l))
      ∙ and_true_right (is_declared k) (heads_clauses (declared_schemes sig k)) h)
    where
      by : 32 ≤ k → (o : Option ConstantEntry) → slice_get sig.constants.items (k - 32) ≡ o → heads_clauses (option_map (entry_scheme sig.bank) (slice_get sig.constants.items (k - 32))) ≡ true →
          (e : ConstantEntry) × (slice_get sig.constants.items (k - 32) ≡ Some e) × (32 ≤ k) × (ends_in_o (entry_scheme sig.bank e).body ≡ true)
      by l None at h = absurd (true≢false (sym h ∙ ap (λ o. heads_clauses (option_map (entry_scheme sig.bank) o)) at))
      by l (Some e) at h = (e, at, l, sym (ap (λ o. heads_clauses (option_map (entry_scheme sig.bank) o)) at) ∙ h)

-- the numbers of a copy, as flattening takes them
no_more : (l : ℕ) → l + 0 ≡ l
no_more l = omega arith

same_map : (c : Copy) → moving c.kinds c.constants 0 ≡ map_of c
same_map c = λ i. record { kinds = c.kinds; constants = c.constants; types = λ x. var x; terms = λ x l. atom (logic x (no_more l i)) }

-- the clauses of a copy
module _ (d : Declared) (c : Copy) (fair : IsFair c) (high : IsHigh c) (sig : Signature) (numbered : IsNumberedSignature sig) (declared : DeclaresCopy d c sig) where
  language_kept : KeepsLanguage c.constants
  language_kept k n l = by (cases_lt k 32)
    where
      by : (k < 32) ⊎ (32 ≤ k) → nat_eq (c.constants k) n ≡ nat_eq k n
      by (inl m) = ap (λ j. nat_eq j n) (fair.constants k m)
      by (inr m) = let h = high k m in ne_eqb (c.constants k) n (λ e. omega (arith, e, h, l)) ∙ sym (ne_eqb k n (λ e. omega (arith, e, m, l)))

  declared_kept : (k : ℕ) → is_declared (c.constants k) ≡ is_declared k
  declared_kept k = by (cases_lt k 32)
    where
      by : (k < 32) ⊎ (32 ≤ k) → is_declared (c.constants k) ≡ is_declared k
      by (inl m) = ap is_declared (fair.constants k m)
      by (inr m) = le-leb 32 (c.constants k) (high k m) ∙ sym (le-leb 32 k m)

  abbrev here : ℕ → Option Scheme
  here k = d (c.constants k)

  heads_here : (k : ℕ) → (is_declared k && heads_clauses (declared_schemes sig k)) ≡ true → heads_clauses (here k) ≡ true
  heads_here k h =
      let (e, at, l, ends) = declared_name sig k h in
      let number = (numbered.constants (k - 32) e at).0 in
      let z : e.number ≡ k = omega (arith, number, l) in
      let is = sym (ap here z) ∙ declared e (k - 32, slice_get_within sig.constants.items (k - 32) e at, get_or_from_slice_get sig.constants.items (k - 32) e e at) in
      ap heads_clauses is ∙ ends_kept c (fair.kinds 0 (omega arith)) (entry_scheme sig.bank e).body ends

  pub clause_flat : (source : List ℕ) (raw : RawTerm) (b : Nodes) (k : code.ClauseFormula) → IsClause sig source raw b k →
      (depth : ℕ) × (cs : Clauses) × (flatten depth d (in_copy c (formula_of b k)) ≡ Some cs)
  clause_flat source raw b k x =
      let formed = formed_more (declared_schemes sig) here heads_here false k.type_vars x.typing.formula x.formed in
      let (depth, cs, is) = once_flattened (clause_flattens here k.type_vars x.typing.free x.typing.formula formed) in
      let D : ClauseFormula = record { type_vars = k.type_vars; formula = all_of x.typing.free x.typing.formula } in
      let there : flatten depth d (in_copy c D) ≡ option_map (moved_clauses (moving c.kinds c.constants 0) 0) (flatten depth here D) =
      ap (λ m. flatten depth d (record { type_vars = D.type_vars; formula = mapped m D.formula })) (sym (same_map c)) ∙
      flatten_to c.kinds c.constants 0 here d language_kept (λ j. ap (λ t. t && heads_clauses (here j)) (declared_kept j)) depth D in (
        depth,
        moved_clauses (moving c.kinds c.constants 0) 0 cs,
        ap (λ t. flatten depth d (in_copy c (record { type_vars = k.type_vars; formula = t }))) x.closed ∙ there ∙ ap (option_map (moved_clauses (moving c.kinds c.constants 0) 0)) is,
      )

-- the clauses of all copies
abbrev Flat : Declared → ClauseFormula → Type 0
Flat d D = (depth : ℕ) × (cs : Clauses) × (flatten depth d D ≡ Some cs)

module _ (sources : Sources) (modules : List Module) (are : AreModules sources modules)
    (numbered : (k : ℕ) (m : Module) → slice_get modules k ≡ Some m → IsNumberedSignature m.signature) (d : Declared) where
  pub all_flat : (cs : List Copy) → EachOf IsFair cs → EachOf IsHigh cs → EachOf (λ c. (m : Module) → slice_get modules c.member ≡ Some m →
      DeclaresCopy d c m.signature) cs → EachOf (Flat d) (clauses_of modules cs)
  all_flat [] fair high declared = tt
  all_flat (c ∷ cs) (f, fair) (h, high) (s, declared) =
      each_append (Flat d) (map (in_copy c) (get_or (map clauses_in modules) c.member [])) (clauses_of modules cs)
      (each_map (λ k. Flat d (in_copy c k)) (Flat d) (in_copy c) (λ k x. x) (get_or (map clauses_in modules) c.member []) (member_each (λ k. Flat d (in_copy c k)) modules c.member here))
      (all_flat cs fair high declared)
    where
      here : (m : Module) → slice_get modules c.member ≡ Some m → EachOf (λ k. Flat d (in_copy c k)) (clauses_in m)
      here m at =
          let means = (module_at sources modules are are.meanings.meanings c.member m at).1 in
          each_clause (λ k. Flat d (in_copy c k)) m.signature means.source.items m.bank
          (λ raw k x. clause_flat d c f h m.signature (numbered c.member m at) (s m at) means.source.items raw m.bank k x) _ m.clauses.items means.meaning.sentences

pub all_flattened : (d : Declared) (Ds : List ClauseFormula) → EachOf (Flat d) Ds → (P : List Clause) × AreFlattened d Ds P
all_flattened d [] h = ([], refl)
all_flattened d (D ∷ Ds) ((depth, cs, is), more) = let (Q, are) = all_flattened d Ds more in (clause_list cs ++ Q, (depth, cs, Q, is, are, refl))

-- a query on names that have their numbers by their places
pub heads_seen : (d : Declared) (sig : Signature) → DeclaresSeen d sig → ((i : ℕ) (e : ConstantEntry) → slice_get sig.constants.items i ≡ Some e → e.number ≡ 32 + i) →
    (k : ℕ) → (is_declared k && heads_clauses (declared_schemes sig k)) ≡ true → heads_clauses (d k) ≡ true
heads_seen d sig declared placed k h =
    let (e, at, l, ends) = declared_name sig k h in
    let number = placed (k - 32) e at in
    let z : e.number ≡ k = omega (arith, number, l) in
    ap heads_clauses (sym (ap d z) ∙ declared e (k - 32, slice_get_within sig.constants.items (k - 32) e at, get_or_from_slice_get sig.constants.items (k - 32) e e at)) ∙ ends
