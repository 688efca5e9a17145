-- A module of texts stands under each one that accumulates it: that one sees its kinds and constants.
use Rattle.std.proofs.Common.{◌≡◌, ◌∙◌, ℕ, zero, suc, [], ◌∷◌, ◌+◌, List, Option, None, Some, length, map, get_or, ap, refl, sym, subst}
use Rattle.std.specs.Prelude.{Contains, slice_get, string_bytes}
use Rattle.std.proofs.lemmas.Option.{get_or_from_slice_get, same_Some, slice_get_within}
use Rattle.lp_lemmas.proofs.Lists.{get_below}
use Rattle.lp_calculus.specs.Types.{Ty, Tys, var, param, con, arrow, no_types, types}
use Rattle.lp_code.specs.declared.object.Object.{Object}
use Rattle.lp_link.specs.Refusals.{IsLinkRefusal}
use Rattle.lp_link.specs.declared.fault.LinkRefusal.TheVariants as link
use Rattle.lp_link.specs.declared.fault.Part.{Part}
use Rattle.lp_sig.specs.Modules.{said_in_module}
use Rattle.lp_sig.specs.Named.{HasNoParam, HaveNoParams, MeansKinds, all_named, kind_name, kind_names, named, named_in}
use Rattle.lp_sig.specs.Rows.{fixity_row, kind_row}
use Rattle.lp_sig.specs.Said.{a_kind}
use Rattle.lp_sig.specs.Words.{meaning_of}
use Rattle.lp_sig.specs.declared.entries.ConstantEntry.{ConstantEntry}
use Rattle.lp_sig.specs.declared.entries.KindEntry.{KindEntry}
use Rattle.lp_sig.specs.declared.signature.Signature.{Signature}
use Rattle.lp_sig.proofs.FreeTypes.{types_free}
use Rattle.lp_sig.proofs.OwnNames.{own_first}
use Rattle.lp_syntax.specs.declared.text.ModuleText.{ModuleText}
use Rattle.lp_syntax.specs.declared.text.SignatureText.{SignatureText}
use Rattle.lp_term.specs.Nodes.{type_tree}
use Rattle.lp_module.specs.Copies.{uses_of}
use Rattle.lp_module.specs.Joined.{IsNumberedSignature}
use Rattle.lp_module.specs.Program.{place_in}
use Rattle.lp_module.specs.declared.module.Module.{Module}
use Rattle.lp_module.proofs.Joining.{arrow_parts, con_name, list_parts}
use Rattle.lp_module.proofs.Joins.{first_name, own_entry, stands}
use Rattle.lp_build.specs.Compiled.{ArePaired, HasNamesOf, IsObjectOf}
use Rattle.lp_build.specs.Meant.{AreModules, IsModuleAt}
use Rattle.lp_build.specs.Reads.{AreRead}
use Rattle.lp_build.specs.declared.sources.Sources.{Sources}
use Rattle.lp_build.specs.declared.texts.Group.{Group}
use Rattle.lp_build.proofs.Compiling.{paired_weaker}
use Rattle.lp_build.proofs.Differing.{IsUnder, never_differ, shown}
use Rattle.lp_build.proofs.Joined.{apart, meaning_at, modules_joined, ordered, ready, same_signature, sees_signature, uses_name}
use Rattle.lp_build.proofs.KindsUnder.{meant_kind, no_standard, own_kind}
use Rattle.lp_build.proofs.Shapes.{all_shaped}

-- a type that is the same as one without parameters has none
module _ (κ μ : ℕ → Option (List ℕ)) where
  mutual
    free_same : (T U : Ty) → named κ T ≡ named μ U → HasNoParam U → HasNoParam T
    free_same (var x) U e h = tt
    free_same (param k) (var y) e h = absurd (cc)
    free_same (param k) (param j) e h = absurd h
    free_same (param k) (con j us) e h = absurd (cc)
    free_same (param k) (arrow c d) e h = absurd (cc)
    free_same (con k ts) (var y) e h = absurd (cc)
    free_same (con k ts) (param j) e h = absurd h
    free_same (con k ts) (con j us) e h = all_free ts us (con_name (κ k) (μ j) (all_named κ ts) (all_named μ us) e).1 h
    free_same (con k ts) (arrow c d) e h = absurd (cc)
    free_same (arrow a b) (var y) e h = absurd (cc)
    free_same (arrow a b) (param j) e h = absurd h
    free_same (arrow a b) (con j us) e h = absurd (cc)
    free_same (arrow a b) (arrow c d) e (f, g) =
        let p = arrow_parts (named κ a) (named κ b) (named μ c) (named μ d) e in
        (free_same a c p.0 f, free_same b d p.1 g)

    all_free : (ts us : Tys) → all_named κ ts ≡ all_named μ us → HaveNoParams us → HaveNoParams ts
    all_free no_types us e h = tt
    all_free (types t ts) no_types e h = absurd (cc)
    all_free (types t ts) (types u us) e (f, g) =
        let p = list_parts (named κ t) (named μ u) (all_named κ ts) (all_named μ us) e in
        (free_same t u p.0 f, all_free ts us p.1 g)

-- the kinds of two signatures that say the same
kind_again : (es fs : List KindEntry) (i : ℕ) (x : KindEntry) → map kind_row es ≡ map kind_row fs → slice_get fs i ≡ Some x → (y : KindEntry) × (slice_get es i ≡ Some y) × (y.name.items ≡ x.name.items) × (y.arity ≡ x.arity)
kind_again es [] i x e at = absurd (cc)
kind_again [] (f ∷ fs) i x e at = absurd (cc)
kind_again (y ∷ es) (f ∷ fs) zero x e at =
    let row : kind_row y ≡ kind_row f = cc in
    let one = same_Some f x at in
    (y, refl, ap (λ r. r.0) row ∙ ap (λ (k : KindEntry). k.name.items) one, ap (λ r. r.1.1) row ∙ ap (λ (k : KindEntry). k.arity) one)
kind_again (y ∷ es) (f ∷ fs) (suc i) x e at = let rest : map kind_row es ≡ map kind_row fs = cc in kind_again es fs i x rest at

module _ (sources : Sources) (modules : List Module) (read : AreRead sources) (are : AreModules sources modules) where
  abbrev g : Group SignatureText
  g = are.signatures

  abbrev t : Group ModuleText
  t = are.texts

  module _ (above m : Module) (p q : ℕ) (a : IsModuleAt sources.files.items g t p above) (b : IsModuleAt sources.files.items g t q m) (uses : Contains (map (λ u. u.items) above.uses.items) m.name.items)
      (numbered : IsNumberedSignature m.signature) where
    kinds_under : (i : ℕ) (e : KindEntry) → slice_get m.signature.kinds.items i ≡ Some e → place_in m.hidden_kinds.items (8 + i) ≡ None →
        (p : ℕ) × (x : KindEntry) × (slice_get above.signature.kinds.items p ≡ Some x) × (x.name.items ≡ e.name.items) × (x.arity ≡ e.arity)
    kinds_under i e at none =
        let files = sources.files.items in
        let l = shown 8 (length b.own.kinds.items) (length m.signature.kinds.items) i m.hidden_kinds.items b.meaning.hidden_kinds (slice_get_within m.signature.kinds.items i e at) none in
        let (x, at_x) = get_below b.own.kinds.items i l in
        let own = own_kind b.own b.used b.source.items b.text.lines.items m.signature b.meaning.names (apart g b.own_is.number b.own b.own_is.is) i e x at at_x in
        let (k, u, at_u, is_u) = sees_signature files g t read.each are.module_texts above m p q a b uses in
        let same = same_signature files g are.signature_texts b.own_is.number u b.own is_u b.own_is.is in
        let (y, at_y, name, arity) = kind_again u.kinds.items b.own.kinds.items i x same.kinds at_x in
        let r = ready files g t read.each are.module_texts p a.number (string_bytes a.name) a.source a.text a.own a.used a.at_number a.at_source a.at_text a.own_is a.used_are in
        let said = said_in_module a.own a.used a.source.items a.text.lines.items in
        let means : MeansKinds said u.kinds.items =
        subst (λ (u : Signature). MeansKinds said u.kinds.items) (get_or_from_slice_get a.used k u u at_u) (a.meaning.theirs.used_kinds r.few k u (slice_get_within a.used k u at_u)) in
        let kind = subst (λ (y : KindEntry). meaning_of y.name.items said ≡ Some (a_kind y.arity)) (get_or_from_slice_get u.kinds.items i y y at_y) (means i y (slice_get_within u.kinds.items i y at_y)) in
        let w = name ∙ sym own.0 in
        let n = arity ∙ sym own.1 in
        meant_kind a.own a.used a.source.items a.text.lines.items above.signature a.meaning.names e.name.items e.arity (no_standard m.signature numbered i e at)
        (subst (λ v. meaning_of v said ≡ Some (a_kind e.arity)) w (subst (λ c. meaning_of y.name.items said ≡ Some (a_kind c)) n kind))

  free_types : (m : Module) (q : ℕ) (b : IsModuleAt sources.files.items g t q m) → IsNumberedSignature m.signature → (i : ℕ) (e : ConstantEntry) → slice_get m.signature.constants.items i ≡ Some e
      → place_in m.hidden_constants.items (32 + i) ≡ None → HasNoParam (type_tree m.signature.bank e.scheme.0)
  free_types m q b numbered i e at none =
      let is_apart = apart g b.own_is.number b.own b.own_is.is in
      let is_ordered = ordered g b.own_is.number b.own b.own_is.is in
      let l = shown 32 (length b.own.constants.items) (length m.signature.constants.items) i m.hidden_constants.items b.meaning.hidden_constants (slice_get_within m.signature.constants.items i e at) none in
      let (x, at_x) = get_below b.own.constants.items i l in
      let first = own_first b.own b.used b.source.items b.text.lines.items m.signature is_apart b.meaning.names in
      let name : e.name.items ≡ x.name.items = first_name (λ (e : ConstantEntry). e.name.items) (λ (e : ConstantEntry). e.name.items) m.signature.constants.items b.own.constants.items i e x first.constants at at_x in
      let same = own_entry m b.own numbered is_apart i e at x at_x name (b.meaning.theirs.own_ones is_apart is_ordered x (stands b.own.constants.items i x at_x)) in
      let its = b.own_is.is in
      let all = types_free g.names.items g.sources.items g.texts.items its.place (map fixity_row b.own.fixities.items) b.own its.declared in
      free_same (kind_name (kind_names m.signature)) (kind_name (kind_names b.own)) (type_tree m.signature.bank e.scheme.0) (type_tree b.own.bank x.scheme.0) same.1
      (subst (λ (x : ConstantEntry). HasNoParam (type_tree b.own.bank x.scheme.0)) (get_or_from_slice_get b.own.constants.items i x x at_x) (all i x (slice_get_within b.own.constants.items i x at_x)))

  modules_under : (k j : ℕ) (above m : Module) → slice_get modules k ≡ Some above → Contains (get_or (uses_of modules) k []) j → slice_get modules j ≡ Some m → IsUnder above m
  modules_under k j above m at_k used at_j =
      let (p, a) = meaning_at sources modules read are k above at_k in
      let (q, b) = meaning_at sources modules read are j m at_j in
      let all = modules_joined sources modules read are in
      let numbered = all.numbered j m at_j in
      record {
        joined = all.joined k j above m at_k used at_j;
        numbered = numbered;
        above_numbered = all.numbered k above at_k;
        kinds = kinds_under above m p q a b (uses_name sources modules read are k j above m at_k used at_j) numbered;
        free = free_types m q b numbered;
      }

  -- the linking of their objects is never refused for a name
  pub never_for_a_name : (os : List Object) → ArePaired IsObjectOf modules (length modules) os → (root number : ℕ) (p : Part) → IsLinkRefusal os root (link.Differ number p) → ⊥
  never_for_a_name os paired =
      never_differ modules os (all_shaped modules os are.meanings.meanings (paired_weaker IsObjectOf HasNamesOf modules (length modules) os (λ m o p. p.names) paired)) modules_under
