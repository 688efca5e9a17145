-- A query that is asked on the program of texts is typed.
use Rattle.std.proofs.Common.{◌≡◌, ℕ, List, [], ◌∷◌, ◌++◌, map, length, refl, sym, ap, ◌∙◌, subst, Some}
use Rattle.std.specs.Prelude.{reverse, Contains}
use Rattle.std.proofs.lemmas.List.{length-reverse}
use Rattle.lp_calculus.specs.Types.{Ty, Tys, var, param, con, arrow, no_types, types}
use Rattle.lp_calculus.specs.Term.{Term, index, atom, abs, app, constant, integer, text, eigen, logic}
use Rattle.lp_calculus.specs.Term as term
use Rattle.lp_calculus.specs.Fill.{Within}
use Rattle.lp_calculus.specs.Typing.{Typed, o_type}
use Rattle.lp_unify_laws.specs.TypesBelow.{AreTypesBelow}
use Rattle.lp_standard.specs.Schemes.{IsStandard}
use Rattle.lp_syntax.specs.declared.text.RawTerm.{RawTerm}
use Rattle.lp_term.specs.Mapped.{Map, mapped_type, mapped_types, mapped}
use Rattle.lp_term.specs.Nodes.{Nodes, tree, type_tree}
use Rattle.lp_model.specs.Proofs.{Declared, under}
use Rattle.lp_model.specs.declared.program.Typed as code
use Rattle.lp_search_laws.specs.Started.{IsQueryAtom, IsTypedQuery}
use Rattle.lp_sig.specs.declared.entries.ConstantEntry.{ConstantEntry}
use Rattle.lp_sig.specs.declared.signature.Signature.{Signature}
use Rattle.lp_infer.specs.Typing.{term_arguments}
use Rattle.lp_infer.specs.Numbering.{IsTyped, all_variables}
use Rattle.lp_infer.specs.Texts.{entry_scheme}
use Rattle.lp_solve.specs.Schemes.{DeclaresSeen}
use Rattle.lp_solve.specs.Sources.{query_of}
use Rattle.lp_solve.proofs.Texts.Constants.{constants_known}
use Rattle.lp_solve.proofs.Texts.Elaborated.{IsPlain, moved, elaborated_typed}
use Rattle.lp_solve.proofs.Texts.Numbers.{numbered_below, all_below, front_types, back_types, turned_types, elaborated_within}
use Rattle.lp_solve.proofs.Texts.Program.{have_moved}

-- where nothing is renumbered, nothing changes
abbrev pub as_it_is : Map
as_it_is = record { kinds = λ k. k; constants = λ k. k; types = λ x. var x; terms = λ x l. atom (logic x l) }

is_plain : IsPlain as_it_is
is_plain = record { types = λ x. refl; kinds = λ k l. refl }

mutual
  same_type : (T : Ty) → mapped_type as_it_is T ≡ T
  same_type (var x) = refl
  same_type (param k) = refl
  same_type (con c ts) = ap (con c) (same_types ts)
  same_type (arrow a b) = let e = same_type a in let f = same_type b in cc

  same_types : (ts : Tys) → mapped_types as_it_is ts ≡ ts
  same_types no_types = refl
  same_types (types t ts) = let e = same_type t in let f = same_types ts in cc

same_list : (ts : List Ty) → map (mapped_type as_it_is) ts ≡ ts
same_list [] = refl
same_list (t ∷ ts) = let e = same_type t in let f = same_list ts in cc

pub same_term : (t : Term) → mapped as_it_is t ≡ t
same_term (index i) = refl
same_term (atom (constant c ts)) = ap (λ us. atom (constant c us)) (same_list ts)
same_term (atom (integer z)) = refl
same_term (atom (text s)) = refl
same_term (atom (eigen k)) = refl
same_term (atom (logic x l)) = refl
same_term (atom (term.param k T)) = ap (λ U. atom (term.param k U)) (same_type T)
same_term (abs b) = ap abs (same_term b)
same_term (app t u) = let e = same_term t in let f = same_term u in cc

pub query_typed : (d : Declared) → IsStandard d → (sig : Signature) → DeclaresSeen d sig → (source : List ℕ) (raw : RawTerm) (b : Nodes)
    (q : code.Typed) → IsTyped sig source raw b q → IsTypedQuery d (query_of b q)
query_typed d std sig t source raw b q x =
    let vars = map (λ v. type_tree b v.1.0) q.vars.items in
    let formula = tree b q.formula.0 in
    let typing = x.principal.typing in
    let R = typing.looked_up in
    let known = constants_known sig source raw.nodes.items typing.notes (length (map (λ v. v.0) q.vars.items)) typing.reads in
    let types_of : (e : ConstantEntry) → Contains sig.constants.items e → d e.number ≡ Some (moved as_it_is (entry_scheme sig.bank e)) =
    λ e h. t e h ∙ ap (λ T. Some (record { count = e.type_vars; body = T })) (sym (same_type (type_tree sig.bank e.scheme.0))) in
    let in_types = elaborated_typed as_it_is is_plain d (reverse vars) R formula o_type (have_moved d std as_it_is is_plain (λ k l. refl) sig types_of R known) typing.elaborates in
    let below = numbered_below 0 (all_variables (reverse (reverse vars) ++ term_arguments formula)) q.type_vars x.numbered in
    let inside = elaborated_within as_it_is is_plain q.type_vars (reverse vars) R formula o_type (back_types q.type_vars (reverse (reverse vars)) (term_arguments formula) below) typing.elaborates in
    record {
      vars = subst (AreTypesBelow q.type_vars) (same_list vars) (all_below as_it_is is_plain q.type_vars vars
          (turned_types q.type_vars vars (turned_types q.type_vars (reverse vars) (front_types q.type_vars (reverse (reverse vars)) (term_arguments formula) below))));
      typed = subst (λ C. Typed (under d []) C formula o_type) (same_list (reverse vars))
          (subst (λ u. Typed (under d []) (map (mapped_type as_it_is) (reverse vars)) u o_type) (same_term formula) in_types);
      within = subst (λ n. Within (IsQueryAtom q.type_vars) n formula) (length-reverse vars) (subst (Within (IsQueryAtom q.type_vars) (length (reverse vars))) (same_term formula) inside);
    }
