-- What signatures give, as tables of trees: the bodies of abbreviations, and the types of constants.
use Rattle.std.proofs.Common.{◌≡◌, ℕ, ◌<◌, List, [], ◌∷◌, length, Bool, true, false, Some, refl, sym, ap, subst, ◌∙◌, arith, cond}
use Rattle.std.specs.Str.{bytes_eq}
use Rattle.std.proofs.lemmas.Option.{same_Some}
use Rattle.lp_term.specs.Nodes.{Nodes, Extends, type_tree}
use Rattle.lp_syntax.specs.declared.text.Declaration.{Declaration}
use Rattle.std.specs.Prelude.{Option}
use Rattle.lp_sig.specs.AsWritten.{as_trees}
use Rattle.lp_sig.specs.Differing.{number_here, numbered_by, trees_here, of_signatures}
use Rattle.lp_sig.specs.Holding.{KnowsBodies}
use Rattle.lp_sig.specs.Named.{NamedTy}
use Rattle.lp_sig.specs.Rows.{Row, found}
use Rattle.lp_sig.specs.Said.{Said, is_among, names_in}
use Rattle.lp_sig.specs.Types.{Definition, as_tree, given_body}
use Rattle.lp_sig.specs.inner.Taking.{AreKnownTypes}
use Rattle.lp_sig.specs.inner.Telling.{AreBodiesHere, AreTypedHere}
use Rattle.lp_sig.specs.declared.bodies.Body.{Body}
use Rattle.lp_sig.specs.declared.constants.Constants.{Constants}
use Rattle.lp_sig.proofs.DeclaredTypes.{found_as_trees, as_trees_names}

module _ (said : List (Row Said)) where
  found_here : (name : List ℕ) (rows : List (Row NamedTy)) (t : NamedTy) → found name rows ≡ Some t → found name (trees_here said rows) ≡ Some (numbered_by (number_here said) t)
  found_here name [] t e = absurd (cc)
  found_here name (r ∷ rs) t e = by (bytes_eq name r.0) (found_here name rs t) e
    where
      by : (c : Bool) → (found name rs ≡ Some t → found name (trees_here said rs) ≡ Some (numbered_by (number_here said) t)) → cond c (Some r.1) (found name rs) ≡ Some t →
          cond c (Some (numbered_by (number_here said) r.1)) (found name (trees_here said rs)) ≡ Some (numbered_by (number_here said) t)
      by true h f = ap (λ t. Some (numbered_by (number_here said) t)) (same_Some r.1 t f)
      by false h f = h f

  names_here : (rows : List (Row NamedTy)) → names_in (trees_here said rows) ≡ names_in rows
  names_here [] = refl
  names_here (r ∷ rs) = ap (λ l. r.0 ∷ l) (names_here rs)

  pub given_bodies : (b : Nodes) (bodies : List Body) (rows : List (Row NamedTy)) (text : List ℕ) (declared : ℕ → Option Declaration) → AreBodiesHere b bodies said rows → KnowsBodies b bodies said (as_trees (trees_here said rows)) text declared
  given_bodies b bodies rows text declared g = record {
    holds = λ name place id at is.
        let r = g.are name place at in
        let one : r.id ≡ id = same_Some r.id id (sym r.at ∙ is) in
        let tree : numbered_by (number_here said) r.body ≡ type_tree b id.0 = sym r.is.tree ∙ ap (λ i. type_tree b i.0) one in
        let f = found_as_trees name (trees_here said rows) (numbered_by (number_here said) r.body) (found_here name rows r.body r.first) ∙ ap (λ t. Some (as_tree t)) tree in (
          subst (λ i. i.0 < length b.types) one r.inside,
          record { definition = as_tree (type_tree b id.0); declared = f; is = given_body (type_tree b id.0) refl refl },
        );
    lines = λ name place line s ps ty at is d. absurd (let n = sym (g.no_line place) ∙ is in cc);
    count = g.count;
    told = λ n e. g.told n (ap (is_among n) (sym (as_trees_names (trees_here said rows) ∙ names_here rows)) ∙ e);
  }

  pub given_types : (b now : Nodes) (c : Constants) (rows : List (Row NamedTy)) (later : List (Row Said)) (defs : List (Row Definition)) → Extends b now → AreTypedHere b c said rows → AreKnownTypes now c later defs (trees_here said rows) []
  given_types b now c rows later defs x all k has d is =
      let r = all k has in
      let one : r.type ≡ d = same_Some r.type d (sym r.declared ∙ is) in
      let l = r.inside in
      let m = x.more_types in
      let y : r.type.scheme.0 < length now.types = omega (arith, l, m) in
      let tree : numbered_by (number_here said) r.name ≡ type_tree now d.scheme.0 = sym r.is.tree ∙ sym (x.same_types r.type.scheme.0 l) ∙ ap (λ d. type_tree now d.scheme.0) one in
      (subst (λ d. d.scheme.0 < length now.types) one y, of_signatures (found_here k.name.items rows r.name r.first ∙ ap (λ t. Some t) tree))
