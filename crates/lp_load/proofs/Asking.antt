-- A typing stays in a bank that grows.
use Rattle.std.proofs.Common.{◌≡◌, ℕ, ◌<◌, ◌≤◌, List, map, ap, subst, sym, arith, ◌∙◌, true}
use Rattle.std.specs.Prelude.{reverse, length}
use Rattle.lp_lemmas.proofs.Lists.{map_agree_on}
use Rattle.lp_fixity.specs.Table.{entry_of}
use Rattle.lp_fixity.specs.declared.table.Table.{Table}
use Rattle.lp_lexer.specs.Lexis.{HasTokens}
use Rattle.lp_lexer.specs.declared.token.Token.{Token}
use Rattle.lp_syntax.specs.declared.text.RawQuery.{RawQuery}
use Rattle.lp_syntax.specs.Tokens.{lexemes, spot_at}
use Rattle.lp_syntax.specs.Queries.{IsQueryText}
use Rattle.lp_term.specs.Nodes.{Nodes, Extends, tree, type_tree}
use Rattle.lp_model.specs.declared.program.Typed.{Typed}
use Rattle.lp_syntax.specs.declared.text.RawTerm.{RawTerm}
use Rattle.lp_sig.specs.declared.signature.Signature.{Signature}
use Rattle.lp_infer.specs.Numbering.{AreNumbered, IsTyped, typing_of, typing_variables}
use Rattle.lp_infer.specs.Texts.{IsPrincipalTyping}
use Rattle.lp_infer.specs.Refusals.{Stands}
use Rattle.lp_module.specs.Arguments.{HasManyArguments}
use Rattle.lp_module.specs.Clauses.{IsFormed}
use Rattle.lp_module.specs.Refusals.{IsShort}
use Rattle.lp_module.specs.Schemes.{declared_schemes}
use Rattle.lp_base.specs.declared.limits.TheConstants.{MAX_ARGUMENTS}
use Rattle.lp_term.proofs.Trees.{extends-trans}
use Rattle.lp_load.specs.Asked.{IsAsked, IsRead}

-- the tokens of a text and the query that they are
pub read_as : (operators : Table) (text : List ℕ) (raw : RawQuery) (ts us : List Token) → HasTokens text ts → us ≡ ts
    → IsQueryText (spot_at 0 text us) (entry_of operators) (lexemes text us) raw → IsRead operators text raw
read_as operators text raw ts us h e q = record { tokens = ts; lexed = h; tree = subst (λ z. IsQueryText (spot_at 0 text z) (entry_of operators) (lexemes text z) raw) e q }

module _ (a b : Nodes) (grown : Extends a b) where
  pub typing_stays : (t : Typed) → Stands a t → typing_of b t ≡ typing_of a t
  typing_stays t h =
      ap (λ ts. record { free = reverse ts; formula = tree b t.formula.0 }) types
      ∙ ap (λ f. record { free = reverse (map (λ v. type_tree a v.1.0) t.vars.items); formula = f }) (grown.same_terms t.formula.0 h.formula)
    where
      types : map (λ v. type_tree b v.1.0) t.vars.items ≡ map (λ v. type_tree a v.1.0) t.vars.items
      types = map_agree_on (λ v. v.1.0 < length a.types) (λ v. type_tree b v.1.0) (λ v. type_tree a v.1.0) (λ v l. grown.same_types v.1.0 l) t.vars.items h.types

  pub typed_stays : (names : Signature) (text : List ℕ) (raw : RawTerm) (t : Typed) → Stands a t → IsTyped names text raw a t → IsTyped names text raw b t
  typed_stays names text raw t h i = record {
    principal = subst (IsPrincipalTyping names text raw (map (λ v. v.0) t.vars.items)) (sym (typing_stays t h)) i.principal;
    numbered = subst (λ T. AreNumbered 0 (typing_variables T) t.type_vars) (sym (typing_stays t h)) i.numbered;
  }

  pub stands_stay : (t : Typed) → Stands a t → Stands b t
  stands_stay t h = record {
    formula = omega (arith, h.formula, grown.more_terms);
    types = λ i d l. let p = h.types i d l in omega (arith, p, grown.more_types);
  }

  pub asked_stays : (operators : Table) (names : Signature) (text : List ℕ) (t : Typed) → IsAsked operators names text a t → IsAsked operators names text b t
  asked_stays operators names text t h = record {
    raw = h.raw;
    read = h.read;
    few = h.few;
    stands = stands_stay t h.stands;
    typed = typed_stays names text h.raw.term t h.stands h.typed;
    short = subst IsShort (sym (grown.same_terms t.formula.0 h.stands.formula)) h.short;
    variables = h.variables;
    formed = subst (IsFormed (declared_schemes names) true t.type_vars) (sym (grown.same_terms t.formula.0 h.stands.formula)) h.formed;
  }

-- what is typed in a bank and tested there, in a later one
pub asked_later : (operators : Table) (names : Signature) (text : List ℕ) (a b c : Nodes) (raw : RawQuery) (t : Typed) → Extends a b → Extends b c
    → IsRead operators text raw → (HasManyArguments raw.term → ⊥) → Stands a t → IsTyped names text raw.term a t
    → IsShort (tree a t.formula.0) → t.type_vars ≤ MAX_ARGUMENTS → IsFormed (declared_schemes names) true t.type_vars (tree a t.formula.0)
    → IsAsked operators names text c t
asked_later operators names text a b c raw t e f r n h i s v m =
    asked_stays a c (extends-trans a b c e f) operators names text t (record { raw = raw; read = r; few = n; stands = h; typed = i; short = s; variables = v; formed = m })
