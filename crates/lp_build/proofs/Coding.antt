-- The code of modules: what it denotes, and the objects and the image that have it.
use Rattle.std.proofs.Common.{◌≡◌, ◌∙◌, ◌++◌, ◌∷◌, [], ◌+◌, ◌-◌, ◌<◌, ℕ, zero, suc, List, Option, Some, if◌then◌else◌, length, map, get_or, ap, refl, sym, subst, arith, append_assoc, append-nil}
use Rattle.std.specs.Prelude.{All, nat_lt, slice_get, take}
use Rattle.std.proofs.lemmas.List.{map-append, take_more}
use mathlib.Core.Path.{fun_ext}
use Rattle.lp_lemmas.proofs.Lists.{cons_equal, map_pushed}
use Rattle.lp_calculus.specs.Types.{Ty}
use Rattle.lp_calculus.specs.Typing.{Scheme}
use Rattle.lp_standard.specs.Schemes.{entry, standard_schemes}
use Rattle.lp_term.specs.Nodes.{Nodes, Extends}
use Rattle.lp_term.proofs.Trees.{extends-trans}
use Rattle.lp_model.specs.Flat.{Clause, Clauses, clause_list}
use Rattle.lp_model.specs.Flatten.{ClauseFormula, flatten}
use Rattle.lp_model.specs.Flattened as flattened
use Rattle.lp_model.specs.Flattened.{clause_of, clauses_of}
use Rattle.lp_model.specs.Proofs.{AreFlattened}
use Rattle.lp_model.specs.Readings.{declared_by, formula_of, scheme_of}
use Rattle.lp_model.specs.declared.clause.Clause as code_clause
use Rattle.lp_model.specs.declared.program.ClauseFormula as code_formula
use Rattle.lp_model.specs.declared.program.Declared.{Declared}
use Rattle.lp_code.specs.Denote.{denote}
use Rattle.lp_code.specs.Naming.{object_arity, object_tables, scheme_in, tables_of}
use Rattle.lp_code.specs.declared.object.Object.{Object}
use Rattle.lp_code.specs.declared.object.ObjectConstant.{ObjectConstant}
use Rattle.lp_code.specs.declared.record.Record.{Record}
use Rattle.lp_gen.specs.Contract as contract
use Rattle.lp_gen.specs.Contract.{DenotesClauses}
use Rattle.lp_gen.specs.Sources.{AreKnownSchemes, IsClause}
use Rattle.lp_sig.specs.declared.entries.ConstantEntry.{ConstantEntry}
use Rattle.lp_sig.specs.declared.signature.Signature.{Signature}
use Rattle.lp_module.specs.Program.{clauses_in}
use Rattle.lp_module.specs.declared.module.Module.{Module}
use Rattle.lp_build.specs.Compiled.{ArePaired, DenoteFlattened, HasNamesOf, IsObjectConstant, IsObjectKind, IsObjectOf}
use Rattle.lp_build.specs.Uncoded.{schemes_of}
use Rattle.lp_build.specs.inner.Coded.{AreFlat, signature_tables}

-- pairs

pub paired_head : {A B : Type 0} (P : A → B → Type 0) (x : A) (xs : List A) (n : ℕ) (y : B) (ys : List B) → ArePaired P (x ∷ xs) n (y ∷ ys) → P x y
paired_head P x xs n y ys h = h.each 0 x y (omega arith, refl) (omega arith, refl)

pub paired_tail : {A B : Type 0} (P : A → B → Type 0) (x : A) (xs : List A) (y : B) (ys : List B) → ArePaired P (x ∷ xs) (length (x ∷ xs)) (y ∷ ys) → ArePaired P xs (length xs) ys
paired_tail P x xs y ys h = record {
  many = let m = h.many in omega (arith, m);
  each = λ i u v a b. h.each (suc i) u v (let l = a.0 in omega (arith, l), a.1) (let l = b.0 in omega (arith, l), b.1);
}

pub paired_map : {A B C : Type 0} (P : A → B → Type 0) (f : A → C) (g : B → C) (xs : List A) (ys : List B) → ((x : A) (y : B) → P x y → g y ≡ f x) → ArePaired P xs (length xs) ys → map g ys ≡ map f xs
paired_map P f g [] [] h p = refl
paired_map P f g [] (y ∷ ys) h p = absurd (let m = p.many in omega (arith, m))
paired_map P f g (x ∷ xs) [] h p = absurd (let m = p.many in omega (arith, m))
paired_map P f g (x ∷ xs) (y ∷ ys) h p =
    cons_equal (g y) (f x) (map g ys) (map f xs) (h x y (paired_head P x xs (length (x ∷ xs)) y ys p)) (paired_map P f g xs ys h (paired_tail P x xs y ys p))

-- tables

entry_get : (b : Nodes) (ds : List Declared) (i : ℕ) → entry (map (λ x. Some (scheme_of b x)) ds) i ≡ slice_get (map (scheme_of b) ds) i
entry_get b [] i = refl
entry_get b (d ∷ ds) zero = refl
entry_get b (d ∷ ds) (suc i) = entry_get b ds i

-- the constants of a signature as a program declares them
pub declared_tables : (b : Nodes) (s : Signature) (ds : List Declared) → map (scheme_of b) ds ≡ schemes_of s → contract.tables_of b ds (signature_tables s).kinds ≡ signature_tables s
declared_tables b s ds e = λ i. record { kinds = (signature_tables s).kinds; constants = fun_ext at i }
  where
    at : (c : ℕ) → declared_by b ds c ≡ (signature_tables s).constants c
    at c = ap (λ z. if nat_lt c 32 then entry standard_schemes c else z) (entry_get b ds (c - 32) ∙ ap (λ l. slice_get l (c - 32)) e)

-- as those of its object
object_tables_are : (m : Module) (o : Object) → HasNamesOf m o → object_tables o ≡ signature_tables m.signature
object_tables_are m o h = λ i. tables_of (kinds i) (constants i)
  where
    kinds : map object_arity o.kinds.items ≡ map (λ e. e.arity) m.signature.kinds.items
    kinds = paired_map IsObjectKind (λ e. e.arity) object_arity m.signature.kinds.items o.kinds.items (λ e k p. p.arity) h.kinds

    constants : map (λ (c : ObjectConstant). scheme_in o.bank c.type_vars c.scheme.0) o.constants.items ≡ schemes_of m.signature
    constants = paired_map (IsObjectConstant m.signature o.bank) (λ (e : ConstantEntry). scheme_in m.signature.bank e.type_vars e.scheme.0)
        (λ (c : ObjectConstant). scheme_in o.bank c.type_vars c.scheme.0)
        m.signature.constants.items o.constants.items (λ e c p i. scheme_at (p.variables i) (p.scheme i)) h.constants
      where
        scheme_at : ℕ → Ty → Scheme
        scheme_at n T = record { count = n; body = T }

pub object_coded : (m : Module) (o : Object) → DenoteFlattened (signature_tables m.signature) (clauses_in m) o.code.records.items → HasNamesOf m o → IsObjectOf m o
object_coded m o code names = record {
  names = names;
  code = subst (λ t. DenoteFlattened t (clauses_in m) o.code.records.items) (sym (object_tables_are m o names)) code;
}

-- flattened clauses

listed : (cs : List Clause) → clause_list (flattened.clauses_in cs) ≡ cs
listed [] = refl
listed (c ∷ cs) = ap (λ l. c ∷ l) (listed cs)

-- those of one more formula
flattened_push : (d : ℕ → Option Scheme) (fs : List ClauseFormula) (f : ClauseFormula) (ds : List Clause) → AreFlattened d (fs ++ f ∷ []) ds
    → (before : List Clause) × (n : ℕ) × (cs : Clauses) × AreFlattened d fs before × (flatten n d f ≡ Some cs) × (ds ≡ before ++ clause_list cs)
flattened_push d [] f ds (n, cs, rest, is, none, e) = ([], n, cs, refl, is, e ∙ ap (λ l. clause_list cs ++ l) none ∙ append-nil (clause_list cs))
flattened_push d (g ∷ fs) f ds (n, cs, rest, is, more, e) =
    let (before, m, own, are, last, whole) = flattened_push d fs f rest more in
    (clause_list cs ++ before, m, own, (n, cs, before, is, are, refl), last, e ∙ ap (λ l. clause_list cs ++ l) whole ∙ sym (append_assoc (clause_list cs) before (clause_list own)))

pub flat_none : (b : Nodes) (fs : List code_formula.ClauseFormula) (cs : List code_clause.Clause) → fs ≡ [] → cs ≡ [] → AreFlat b b fs cs
flat_none b fs cs e n d ds later flat grown = ap (map (clause_of later)) n ∙ sym (subst (λ l. AreFlattened d (map (formula_of b) l) ds) e flat)

pub flat_more : (old now new : Nodes) (fs all : List code_formula.ClauseFormula) (f : code_formula.ClauseFormula) (cs more whole : List code_clause.Clause) → all ≡ fs ++ f ∷ [] → whole ≡ cs ++ more
    → f.formula.0 < length old.terms → Extends old now → Extends now new
    → ((n : ℕ) (d : ℕ → Option Scheme) (flat : Clauses) (later : Nodes) → flatten n d (formula_of now f) ≡ Some flat → Extends new later → clauses_of later more ≡ flat)
    → AreFlat old now fs cs → AreFlat old new all whole
flat_more old now new fs all f cs more whole is whole_is within grown grown_more one before d ds later flat later_on =
    let (first, n, own, are, last, e) = flattened_push d (map (formula_of old) fs) (formula_of old f) ds
    (subst (λ l. AreFlattened d l ds) (map_pushed (formula_of old) fs all f is) flat) in
    let same : formula_of now f ≡ formula_of old f = λ i. record { type_vars = f.type_vars; formula = grown.same_terms f.formula.0 within i } in
    let firsts = before d first later are (extends-trans now new later grown_more later_on) in
    let lasts = one n d own later (ap (flatten n d) same ∙ last) later_on in
    ap (map (clause_of later)) whole_is ∙ map-append (clause_of later) cs more ∙ ap (λ l. l ++ map (clause_of later) more) firsts
    ∙ ap (λ l. first ++ l) (sym (listed (map (clause_of later) more)) ∙ ap clause_list lasts) ∙ sym e

-- what code denotes
pub code_denotes : (old now b : Nodes) (s : Signature) (ds : List Declared) (fs : List code_formula.ClauseFormula) (cs : List code_clause.Clause)
    (rs : List Record) → map (scheme_of b) ds ≡ schemes_of s
    → AreFlat old now fs cs → Extends now b → DenotesClauses b ds cs rs → DenoteFlattened (signature_tables s) (map (formula_of old) fs) rs
code_denotes old now b s ds fs cs rs declared flat grown denotes own is known are =
    let t = signature_tables s in
    let e : contract.tables_of b ds t.kinds ≡ t = declared_tables b s ds declared in
    let same : map (clause_of b) cs ≡ own = flat t.constants own b is grown in
    ap (λ z. denote z rs) (sym e)
    ∙ denotes t.kinds (subst AreKnownSchemes (sym e) known) (subst (λ z. All (IsClause z) (map (clause_of b) cs)) (sym e) (subst (All (IsClause t)) (sym same) are))
    ∙ ap Some same

-- the constants of a signature, one after the other
pub declared_more : (b later : Nodes) (entries : List ConstantEntry) (i : ℕ) (e : ConstantEntry) (old new : List Declared) (d : Declared) → i < length
    entries → e ≡ get_or entries i e → new ≡ old ++ d ∷ []
    → scheme_of later d ≡ scheme_in b e.type_vars e.scheme.0 → map (scheme_of later) old ≡ map (λ x. scheme_in b x.type_vars x.scheme.0) (take i entries)
    → map (scheme_of later) new ≡ map (λ x. scheme_in b x.type_vars x.scheme.0) (take (i + 1) entries)
declared_more b later entries i e old new d l same pushed is before =
    map_pushed (scheme_of later) old new d pushed
    ∙ (λ j. before j ++ is j ∷ [])
    ∙ sym (map_pushed (λ x. scheme_in b x.type_vars x.scheme.0) (take i entries) (take (i + 1) entries) e (take_more entries i e l ∙ ap (λ z. take i entries ++ z ∷ []) (sym same)))
