-- The clauses of the program of texts are typed sentences.
use Rattle.std.proofs.Common.{◌≡◌, ℕ, zero, suc, ◌<◌, List, [], ◌∷◌, ◌++◌, map, length, get_or, refl, sym, ap, ◌∙◌, subst, Option, Some, None, Bool, true, inl, inr, arith}
use Rattle.std.specs.Prelude.{reverse, ◌⊎◌, ◌&&◌, nat_lt, slice_get, Contains}
use Rattle.std.proofs.lemmas.Bool.{ltb-true}
use Rattle.std.proofs.lemmas.List.{length-map}
use Rattle.std.proofs.lemmas.Option.{same_Some}
use Rattle.lp_lemmas.specs.Each.{EachOf}
use Rattle.lp_lemmas.proofs.Booleans.{and_true_left, and_true_right}
use Rattle.lp_lemmas.proofs.Each.{each_append, each_map}
use Rattle.lp_calculus.specs.Types.{Ty, Tys, var, param, con, arrow, no_types, types}
use Rattle.lp_calculus.specs.Fill.{Within}
use Rattle.lp_calculus.specs.Typing.{Scheme, Typed, o_type}
use Rattle.lp_standard.specs.Schemes.{IsStandard, standard_schemes, entry}
use Rattle.lp_syntax.specs.declared.text.RawTerm.{RawTerm}
use Rattle.lp_term.specs.Mapped.{Map, mapped_type, mapped_types, mapped}
use Rattle.lp_term.specs.Nodes.{Nodes, tree}
use Rattle.lp_model.specs.Flat.{all_of}
use Rattle.lp_model.specs.Flatten.{ClauseFormula}
use Rattle.lp_model.specs.Proofs.{Declared, under}
use Rattle.lp_model.specs.Readings.{formula_of}
use Rattle.lp_model.specs.declared.program.ClauseFormula as code
use Rattle.lp_search_laws.specs.Started.{IsQueryAtom, IsTypedSentence}
use Rattle.lp_sig.specs.declared.entries.ConstantEntry.{ConstantEntry}
use Rattle.lp_sig.specs.declared.signature.Signature.{Signature}
use Rattle.lp_infer.specs.Typing.{Raw, raw_index, raw_constant, raw_integer, raw_text, raw_abs, raw_app, term_arguments}
use Rattle.lp_infer.specs.Numbering.{all_variables}
use Rattle.lp_infer.specs.Texts.{entry_scheme}
use Rattle.lp_module.specs.Clauses.{IsClause, AreClauses}
use Rattle.lp_module.specs.Program.{Copy, Next, CopiesBelow, none_below, one_below, AreCopies, map_of, in_copy, clauses_in, clauses_of}
use Rattle.lp_module.specs.declared.module.Module.{Module}
use Rattle.lp_build.specs.Meant.{IsModuleAt, AreModules, AreModulesAt, no_module, one_module}
use Rattle.lp_build.specs.declared.build.Built.{Built}
use Rattle.lp_build.specs.declared.sources.Sources.{Sources}
use Rattle.lp_load.specs.Loaded.{IsBuiltFrom}
use Rattle.lp_solve.specs.Schemes.{DeclaresCopy}
use Rattle.lp_solve.specs.Sources.{HasTypes, source_clauses}
use Rattle.lp_solve.proofs.Texts.Closing.{closed_typed, closed_within, closed_moved}
use Rattle.lp_solve.proofs.Texts.Constants.{HasConstants, constants_known}
use Rattle.lp_solve.proofs.Texts.Elaborated.{IsPlain, moved, HaveMoved, elaborated_typed}
use Rattle.lp_solve.proofs.Texts.Numbers.{numbered_below, all_below, front_types, back_types, turned_types, elaborated_within}

-- the standard constants, whose types have kinds of the language

abbrev mutual
  low_type : Ty → Bool
  low_type (var i) = true
  low_type (param k) = true
  low_type (con k ts) = nat_lt k 8 && low_types ts
  low_type (arrow a b) = low_type a && low_type b

  low_types : Tys → Bool
  low_types no_types = true
  low_types (types t ts) = low_type t && low_types ts

abbrev low_scheme : Option Scheme → Bool
low_scheme None = true
low_scheme (Some s) = low_type s.body

abbrev low_schemes : List (Option Scheme) → Bool
low_schemes [] = true
low_schemes (s ∷ ss) = low_scheme s && low_schemes ss

entry_low : (ss : List (Option Scheme)) (c : ℕ) (s : Scheme) → low_schemes ss ≡ true → entry ss c ≡ Some s → low_type s.body ≡ true
entry_low [] c s l e = absurd (cc)
entry_low (o ∷ ss) zero s l e = subst (λ o. low_scheme o ≡ true) e (and_true_left (low_scheme o) (low_schemes ss) l)
entry_low (o ∷ ss) (suc c) s l e = entry_low ss c s (and_true_right (low_scheme o) (low_schemes ss) l) e

entry_within : (ss : List (Option Scheme)) (c : ℕ) (s : Scheme) → entry ss c ≡ Some s → c < length ss
entry_within [] c s e = absurd (cc)
entry_within (o ∷ ss) zero s e = omega arith
entry_within (o ∷ ss) (suc c) s e = let i = entry_within ss c s e in omega (arith, i)

pub standard_below : (c : ℕ) (s : Scheme) → entry standard_schemes c ≡ Some s → c < 32
standard_below c s e = let i = entry_within standard_schemes c s e in let n : length standard_schemes ≡ 25 = refl in omega (arith, i, n)

module _ (m : Map) (p : IsPlain m) where
  mutual
    low_same : (T : Ty) → low_type T ≡ true → mapped_type m T ≡ T
    low_same (var i) l = p.types i
    low_same (param k) l = refl
    low_same (con k ts) l = let e = p.kinds k (ltb-true k 8 (and_true_left (nat_lt k 8) (low_types ts) l)) in let f = low_all ts (and_true_right (nat_lt k 8) (low_types ts) l) in cc
    low_same (arrow a b) l = let e = low_same a (and_true_left (low_type a) (low_type b) l) in let f = low_same b (and_true_right (low_type a) (low_type b) l) in cc

    low_all : (ts : Tys) → low_types ts ≡ true → mapped_types m ts ≡ ts
    low_all no_types l = refl
    low_all (types t ts) l = let e = low_same t (and_true_left (low_type t) (low_types ts) l) in let f = low_all ts (and_true_right (low_type t) (low_types ts) l) in cc

  pub standard_moved : (c : ℕ) (s : Scheme) → entry standard_schemes c ≡ Some s → s ≡ moved m s
  standard_moved c s e = ap (λ T. scheme s.count T) (sym (low_same s.body (entry_low standard_schemes c s refl e)))
    where
      scheme : ℕ → Ty → Scheme
      scheme n T = record { count = n; body = T }

-- what a copy keeps
pub record IsFair (c : Copy) : Type 0 where
  pub kinds : (k : ℕ) → k < 8 → c.kinds k ≡ k
  pub constants : (k : ℕ) → k < 32 → c.constants k ≡ k

pub fair_plain : (c : Copy) → IsFair c → IsPlain (map_of c)
fair_plain c f = record { types = λ x. refl; kinds = f.kinds }

below_fair : (modules : List Module) {above : Module} {a : Copy} {before after : Next} {ks : List ℕ} {cs : List Copy} → CopiesBelow modules above a before ks cs after → EachOf IsFair cs
below_fair modules (none_below above a n) = tt
below_fair modules (one_below above a before middle after m c rest below others all at b is more e) =
    subst (EachOf IsFair) (sym e) (each_append IsFair below (c ∷ others) (below_fair modules b) (record { kinds = is.kinds.standard; constants = is.constants.standard }, below_fair modules more))

pub copies_fair : (modules : List Module) (root : ℕ) (all : List Copy) → AreCopies modules root all → EachOf IsFair all
copies_fair modules root all h =
    subst (EachOf IsFair) (sym h.whole) (each_append IsFair h.below (h.copy ∷ []) (below_fair modules h.copies)
    (record { kinds = h.is_root.kinds.standard; constants = h.is_root.constants.standard }, tt))

-- the constants of a text have their declared types
pub have_moved : (d : Declared) → IsStandard d → (m : Map) (p : IsPlain m) → ((k : ℕ) → k < 32 → m.constants k ≡ k) → (sig : Signature) →
    ((e : ConstantEntry) → Contains sig.constants.items e → d (m.constants e.number) ≡ Some (moved m (entry_scheme sig.bank e))) → (R : Raw) → HasConstants sig R → HaveMoved m d R
have_moved d std m p stay sig t (raw_index i) h = tt
have_moved d std m p stay sig t (raw_constant c s) (inl e) =
    let small = standard_below c s e in ap d (stay c small) ∙ std.at c small ∙ e ∙ ap Some (standard_moved m p c s e)
have_moved d std m p stay sig t (raw_constant c s) (inr (e, there, n, is)) =
    subst (λ k. d (m.constants k) ≡ Some (moved m s)) n (subst (λ s. d (m.constants e.number) ≡ Some (moved m s)) is (t e there))
have_moved d std m p stay sig t (raw_integer z) h = tt
have_moved d std m p stay sig t (raw_text s) h = tt
have_moved d std m p stay sig t (raw_abs given b) h = have_moved d std m p stay sig t b h
have_moved d std m p stay sig t (raw_app f u) (h, k) = (have_moved d std m p stay sig t f h, have_moved d std m p stay sig t u k)

-- one clause in a copy
pub clause_typed : (d : Declared) → IsStandard d → (c : Copy) → IsFair c → (sig : Signature) → DeclaresCopy d c sig → (source : List ℕ)
    (raw : RawTerm) (b : Nodes) (k : code.ClauseFormula) → IsClause sig source raw b k → IsTypedSentence d (in_copy c (formula_of b k))
clause_typed d std c f sig t source raw b k x =
    let m = map_of c in
    let p = fair_plain c f in
    let typing = x.typed.principal.typing in
    let free = x.typing.free in
    let formula = x.typing.formula in
    let R = typing.looked_up in
    let known = constants_known sig source raw.nodes.items typing.notes (length x.typed.places) typing.reads in
    let in_types = elaborated_typed m p d free R formula o_type (have_moved d std m p f.constants sig t R known) typing.elaborates in
    let open_typed = subst (λ T. Typed (under d []) (map (mapped_type m) free) (mapped m formula) T) (ap (λ j. con j no_types) (f.kinds 0 (omega arith))) in_types in
    let same : mapped m (tree b k.formula.0) ≡ all_of (map (mapped_type m) free) (mapped m formula) = ap (mapped m) x.closed ∙ closed_moved m (f.constants 4 (omega arith)) free formula in
    let below = numbered_below 0 (all_variables (reverse free ++ term_arguments formula)) k.type_vars x.typed.numbered in
    let types_below = all_below m p k.type_vars free (turned_types k.type_vars free (front_types k.type_vars (reverse free) (term_arguments formula) below)) in
    let inside = elaborated_within m p k.type_vars free R formula o_type (back_types k.type_vars (reverse free) (term_arguments formula) below) typing.elaborates in
    record {
      typed = subst (λ t. Typed (under d []) [] t o_type) (sym same) (closed_typed d std (map (mapped_type m) free) (mapped m formula) open_typed);
      within = subst (Within (IsQueryAtom k.type_vars) 0) (sym same) (closed_within k.type_vars (map (mapped_type m) free) (mapped m formula) types_below
          (subst (λ n. Within (IsQueryAtom k.type_vars) n (mapped m formula)) (sym (length-map free (mapped_type m))) inside));
    }

pub each_clause : (Q : ClauseFormula → Type 0) (sig : Signature) (source : List ℕ) (b : Nodes) →
    ((raw : RawTerm) (k : code.ClauseFormula) → IsClause sig source raw b k → Q (formula_of b k)) → (raws : List RawTerm)
    (ks : List code.ClauseFormula) → AreClauses sig source b raws ks →
    EachOf Q (map (formula_of b) ks)
each_clause Q sig source b f [] [] h = tt
each_clause Q sig source b f [] (k ∷ ks) h = absurd (h)
each_clause Q sig source b f (r ∷ rs) [] h = absurd (h)
each_clause Q sig source b f (r ∷ rs) (k ∷ ks) (h, more) = (f r k h, each_clause Q sig source b f rs ks more)

-- the modules of texts
last_or : {A : Type 0} (xs : List A) (y : A) (k : ℕ) (x : A) → slice_get (xs ++ y ∷ []) k ≡ Some x → (slice_get xs k ≡ Some x) ⊎ (y ≡ x)
last_or [] y zero x e = inr (same_Some y x e)
last_or [] y (suc k) x e = absurd (cc)
last_or (z ∷ zs) y zero x e = inl e
last_or (z ∷ zs) y (suc k) x e = last_or zs y k x e

module _ (sources : Sources) (all : List Module) (are : AreModules sources all) where
  pub module_at : {ps : List ℕ} {ms : List Module} → AreModulesAt sources.files.items are.signatures are.texts ps ms → (k : ℕ) (m : Module) → slice_get ms
      k ≡ Some m → (p : ℕ) × IsModuleAt sources.files.items are.signatures are.texts p m
  module_at no_module k m e = absurd (cc)
  module_at (one_module ps all_ps ms all_ms p last before is e f) k m at = by (module_at before k m) (last_or ms last k m (subst (λ l. slice_get l k ≡ Some m) f at))
    where
      by : (slice_get ms k ≡ Some m → (p : ℕ) × IsModuleAt sources.files.items are.signatures are.texts p m) → (slice_get ms k ≡ Some m) ⊎ (last ≡ m)
          → (p : ℕ) × IsModuleAt sources.files.items are.signatures are.texts p m
      by ih (inl h) = ih h
      by ih (inr h) = (p, subst (IsModuleAt sources.files.items are.signatures are.texts p) h is)

-- all copies
pub member_each : (Q : ClauseFormula → Type 0) (modules : List Module) (k : ℕ) → ((m : Module) → slice_get modules k ≡ Some m → EachOf Q (clauses_in m)) → EachOf Q (get_or (map clauses_in modules) k [])
member_each Q [] k h = tt
member_each Q (m ∷ ms) zero h = h m refl
member_each Q (m ∷ ms) (suc k) h = member_each Q ms k h

all_typed : (sources : Sources) (modules : List Module) → AreModules sources modules → (d : Declared) → IsStandard d → (cs : List Copy) → EachOf IsFair cs →
    EachOf (λ c. (m : Module) → slice_get modules c.member ≡ Some m → DeclaresCopy d c m.signature) cs → EachOf (IsTypedSentence d) (clauses_of modules cs)
all_typed sources modules are d std [] fair declared = tt
all_typed sources modules are d std (c ∷ cs) (f, fair) (h, declared) =
    each_append (IsTypedSentence d) (map (in_copy c) (get_or (map clauses_in modules) c.member [])) (clauses_of modules cs)
    (each_map (λ k. IsTypedSentence d (in_copy c k)) (IsTypedSentence d) (in_copy c) (λ k x. x) (get_or (map clauses_in modules) c.member [])
    (member_each (λ k. IsTypedSentence d (in_copy c k)) modules c.member here)) (all_typed sources modules are d std cs fair declared)
  where
    here : (m : Module) → slice_get modules c.member ≡ Some m → EachOf (λ k. IsTypedSentence d (in_copy c k)) (clauses_in m)
    here m at =
        let means = (module_at sources modules are are.meanings.meanings c.member m at).1 in
        each_clause (λ k. IsTypedSentence d (in_copy c k)) m.signature means.source.items m.bank
        (λ raw k x. clause_typed d std c f m.signature (h m at) means.source.items raw m.bank k x) _ m.clauses.items means.meaning.sentences

pub program_typed : (sources : Sources) (built : Built) (p : IsBuiltFrom sources built) (d : Declared) → HasTypes p d → EachOf (IsTypedSentence d) (source_clauses p)
program_typed sources built p d t =
    let is = p.is in
    let program = is.program.program in
    all_typed sources is.modules is.are d t.standard program.copied (copies_fair is.modules is.program.root program.copied program.are) t.copies
