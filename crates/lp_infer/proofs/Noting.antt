-- The types of an annotation's nodes: what the parts mean, the whole means; and numbers for its type variables.
use Rattle.std.proofs.Common.{◌≡◌, ℕ, zero, suc, ◌<◌, ◌≤◌, List, [], ◌∷◌, ◌++◌, map, length, get_or, refl, sym, ap, subst, ◌∙◌, Option, Some, None, Bool, true, false, true≢false, arith, option_map}
use Rattle.std.proofs.Common.{inl, inr}
use Rattle.std.specs.Prelude.{slice_get, Contains, if◌then◌else◌, Vec, ◌⊎◌, ◌==◌}
use Rattle.std.specs.Global.{Global}
use Rattle.std.specs.Str.{bytes_eq}
use Rattle.std.proofs.lemmas.List.{map-append, length-map}
use Rattle.std.proofs.lemmas.List.Elements.{All-cons, All-nil}
use Rattle.lp_base.specs.declared.place.Spot.{Spot}
use Rattle.lp_calculus.specs.Types.{Ty, arrow, con, tys, instance}
use Rattle.lp_calculus.specs.Typing.{type_at}
use Rattle.lp_term.specs.Nodes.{Nodes, type_tree, Extends}
use Rattle.lp_term.specs.declared.node.TypeId.{TypeId}
use Rattle.lp_term.proofs.Trees.{extends_same, extends-trans}
use Rattle.lp_syntax.specs.declared.text.RawTypeNode.{RawTypeNode}
use Rattle.lp_syntax.specs.declared.text.RawTypeNode.TheVariants.{Word, Arrow}
use Rattle.lp_syntax.specs.RawTypes.{AreBelow}
use Rattle.lp_sig.specs.declared.signature.Signature.{Signature}
use Rattle.lp_sig.specs.Pieces.{spelled, begins_variable}
use Rattle.lp_sig.specs.Places.{first_place}
use Rattle.lp_infer.specs.Texts.{Notes, is_blank, variable_type, kind_type, abbreviated_type, word_type, Means, word, function, AllMean, no_parts, more_parts, IsNoted}
use Rattle.lp_infer.specs.Firsts.{AreFirsts}
use Rattle.lp_infer.specs.Levels.{HasScope}
use Rattle.lp_infer.specs.Postfix.{IsGivenKnown, given_type}
use Rattle.lp_infer.specs.declared.firsts.Firsts.{Firsts}
use Rattle.lp_infer.specs.declared.lookup.Step.TheVariants as step
use Rattle.lp_infer.specs.Visits.{Agrees, noted_types, NotesGrow, IsNoteRead, IsBegun, IsOpened}
use Rattle.lp_infer.specs.Noted.{known_at, NodeNoted, AreNoted, KindNoted, NoteRead}
use Rattle.lp_syntax.specs.declared.text.RawType.{RawType}
use Rattle.lp_term.specs.Within.{IsTypeOf, AreTypesOf}
use Rattle.lp_infer.specs.Copies.{IsType, trees_of}
use Rattle.lp_term.proofs.Within.{type_trees_later}
use Rattle.lp_infer.proofs.Copying.{tys_instance}
use Rattle.lp_infer.proofs.Principal.{scheme_instance}
use Rattle.lp_sig.specs.Rows.{found, kind_row, abbreviation_row}
use Rattle.lp_sig.specs.Standard.{standard_kinds}
use Rattle.std.proofs.lemmas.Bool.{eq-eqb, eqb-true}
use Rattle.std.proofs.lemmas.Option.{slice_get_within}
use Rattle.lp_term.proofs.Walks.{map_map}
use Rattle.lp_lemmas.proofs.Options.{one_value}
use Rattle.lp_lemmas.proofs.Booleans.{bytes_eq_self}
use Rattle.lp_infer.specs.declared.lookup.Lookup.{Lookup}

-- names behind others

more_suc : (o p : Option ℕ) (k : ℕ) → ((i : ℕ) → o ≡ Some i → p ≡ Some i) → option_map (λ i. suc i) o ≡ Some k → option_map (λ i. suc i) p ≡ Some k
more_suc None p k h e = absurd (cc)
more_suc (Some i) p k h e = ap (option_map (λ i. suc i)) (h i refl) ∙ e

pub first_stays : (w v : List ℕ) (ns : List (List ℕ)) (k : ℕ) → first_place w ns ≡ Some k → first_place w (ns ++ v ∷ []) ≡ Some k
first_stays w v [] k e = absurd (cc)
first_stays w v (n ∷ ns) k e = go (bytes_eq w n) (first_stays w v ns) e where
  go : (b : Bool) → ((i : ℕ) → first_place w ns ≡ Some i → first_place w (ns ++ v ∷ []) ≡ Some i) → (if b then Some 0 else option_map (λ i. suc i) (first_place w ns)) ≡ Some k →
      (if b then Some 0 else option_map (λ i. suc i) (first_place w (ns ++ v ∷ []))) ≡ Some k
  go true h f = f
  go false h f = more_suc (first_place w ns) (first_place w (ns ++ v ∷ [])) k h f

not_some : (o : Option ℕ) → option_map (λ i. suc i) o ≡ None → o ≡ None
not_some None e = refl
not_some (Some i) e = absurd (cc)

pub first_behind : (w : List ℕ) (ns : List (List ℕ)) → first_place w ns ≡ None → first_place w (ns ++ w ∷ []) ≡ Some (length ns)
first_behind w [] e = ap (λ b. if b then Some 0 else None) (bytes_eq_self w)
first_behind w (n ∷ ns) e = go (bytes_eq w n) (first_behind w ns) e where
  go : (b : Bool) → (first_place w ns ≡ None → first_place w (ns ++ w ∷ []) ≡ Some (length ns)) → (if b then Some 0 else option_map (λ i. suc i) (first_place w ns)) ≡ None →
      (if b then Some 0 else option_map (λ i. suc i) (first_place w (ns ++ w ∷ []))) ≡ Some (suc (length ns))
  go true h f = absurd (cc)
  go false h f = ap (option_map (λ i. suc i)) (h (not_some (first_place w ns) f))

pub agrees_before : (text : List ℕ) (old new : List Spot) (s : Spot) (κ : Notes) (ρ : ℕ → Ty) → new ≡ old ++ s ∷ [] → Agrees text new κ ρ → Agrees text old κ ρ
agrees_before text old new s κ ρ e A = record {
  blank = A.blank;
  named = λ w k f.
      A.named w k (ap (λ ss. first_place w (map (spelled text) ss)) e ∙ ap (first_place w) (map-append (spelled text) old (s ∷ [])) ∙ first_stays w (spelled text s) (map (spelled text) old) k f);
}

pub number_behind : (text : List ℕ) (old new : List Spot) (s : Spot) (k : ℕ) → new ≡ old ++ s ∷ [] → k ≡ length old → first_place (spelled text s) (map (spelled text) old) ≡ None →
    first_place (spelled text s) (map (spelled text) new) ≡ Some k
number_behind text old new s k e l f =
    ap (λ ss. first_place (spelled text s) (map (spelled text) ss)) e ∙ ap (first_place (spelled text s)) (map-append (spelled text) old (s ∷ [])) ∙ first_behind (spelled text s) (map (spelled text) old) f ∙
    ap (λ n. Some n) (length-map old (spelled text) ∙ sym l)

pub grows_same : (text : List ℕ) (l : Lookup) → NotesGrow text l l
grows_same text l = record { types = extends_same l.types; agrees = λ κ ρ A. A; firsts = λ f. f; steps = refl; scope = refl; variables = refl }

pub grows_then : (text : List ℕ) (a b c : Lookup) → NotesGrow text a b → NotesGrow text b c → NotesGrow text a c
grows_then text a b c G H = record {
  types = extends-trans a.types b.types c.types G.types H.types;
  agrees = λ κ ρ A. G.agrees κ ρ (H.agrees κ ρ A);
  firsts = λ f. H.firsts (G.firsts f);
  steps = H.steps ∙ G.steps;
  scope = H.scope ∙ G.scope;
  variables = H.variables ∙ G.variables;
}

-- places and their types

pub none_there : (done : List (Option TypeId)) (p : ℕ) → known_at done p ≡ None → p < length done → slice_get done p ≡ Some None
none_there [] p e h = absurd (omega (arith, h))
none_there (d ∷ done) zero e h = ap (λ o. Some o) e
none_there (d ∷ done) (suc p) e h = none_there done p e (omega (arith, h))

pub some_there : (done : List (Option TypeId)) (p : ℕ) (t : TypeId) → known_at done p ≡ Some t → slice_get done p ≡ Some (Some t)
some_there [] p t e = absurd (cc)
some_there (d ∷ done) zero t e = ap (λ o. Some o) e
some_there (d ∷ done) (suc p) t e = some_there done p t e

module _ (sig : Signature) (text : List ℕ) (nodes : List RawTypeNode) where
  pub means_below : (κ : Notes) (n : ℕ) (A : Ty) → Means sig text κ nodes n A → n < length nodes
  means_below κ n A (word m s ps Ts B at below parts is) = slice_get_within nodes n (Word s ps) at
  means_below κ n A (function m a b C D at la lb ma mb) = slice_get_within nodes n (Arrow a b) at

  module _ (l : Lookup) (done : List (Option TypeId)) (N : AreNoted sig text nodes l done) where
    pub means_nothing : (κ : Notes) (p : ℕ) (A : Ty) → known_at done p ≡ None → p < length done → Means sig text κ nodes p A → ⊥
    means_nothing κ p A e h m = N p None (none_there done p e h) κ A m

    pub means_known : (p : ℕ) (t : TypeId) → known_at done p ≡ Some t → NodeNoted sig text nodes l p (Some t)
    means_known p t e = N p (Some t) (some_there done p t e)

    -- function types

    pub arrow_nothing : (a b : ℕ) → (known_at done a ≡ None) ⊎ (known_at done b ≡ None) → slice_get nodes (length done) ≡ Some (Arrow a b) → (κ : Notes) (A : Ty) → Means sig text κ nodes (length done) A → ⊥
    arrow_nothing a b none at κ A (word m s ps Ts B at' below parts is) =
        let e : Arrow a b ≡ Word s ps = one_value (slice_get nodes (length done)) (Arrow a b) (Word s ps) at at' in absurd (cc)
    arrow_nothing a b (inl none) at κ A (function m c d C D at' lc ld mc md) =
        let e : Arrow a b ≡ Arrow c d = one_value (slice_get nodes (length done)) (Arrow a b) (Arrow c d) at at' in
        let f : a ≡ c = cc in
        means_nothing κ c C (ap (known_at done) (sym f) ∙ none) lc mc
    arrow_nothing a b (inr none) at κ A (function m c d C D at' lc ld mc md) =
        let e : Arrow a b ≡ Arrow c d = one_value (slice_get nodes (length done)) (Arrow a b) (Arrow c d) at at' in
        let f : b ≡ d = cc in
        means_nothing κ d D (ap (known_at done) (sym f) ∙ none) ld md

    pub arrow_means : (a b : ℕ) (t u : TypeId) → known_at done a ≡ Some t → known_at done b ≡ Some u → slice_get nodes (length done) ≡ Some (Arrow a b) → (κ : Notes) (ρ : ℕ → Ty) → Agrees text l.notes.places.items κ ρ →
        (A : Ty) → A ≡ arrow (type_tree l.types t.0) (type_tree l.types u.0) → Means sig text κ nodes (length done) (instance ρ A)
    arrow_means a b t u e f at κ ρ G A is =
        subst (λ T. Means sig text κ nodes (length done) (instance ρ T)) (sym is)
        (function (length done) a b (noted_types l.types ρ t.0) (noted_types l.types ρ u.0) at (slice_get_within done a (Some t) (some_there done a t e)) (slice_get_within done b (Some u) (some_there done b u f)) ((means_known a t e).1 κ ρ G) ((means_known b u f).1 κ ρ G))

    -- the arguments of a word

    pub parts_below : (ps : List ℕ) (ts : List TypeId) → map (known_at done) ps ≡ map (λ t. Some t) ts → AreBelow (length done) ps
    parts_below [] ts e = tt
    parts_below (p ∷ ps) [] e = absurd (cc)
    parts_below (p ∷ ps) (t ∷ ts) e =
        let f : known_at done p ≡ Some t = cc in
        let g : map (known_at done) ps ≡ map (λ t. Some t) ts = cc in
        (slice_get_within done p (Some t) (some_there done p t f), parts_below ps ts g)

    pub parts_types : (ps : List ℕ) (ts : List TypeId) → map (known_at done) ps ≡ map (λ t. Some t) ts → AreTypesOf l.types ts
    parts_types [] [] e = All-nil (IsTypeOf l.types)
    parts_types [] (t ∷ ts) e = absurd (cc)
    parts_types (p ∷ ps) [] e = absurd (cc)
    parts_types (p ∷ ps) (t ∷ ts) e =
        let f : known_at done p ≡ Some t = cc in
        let g : map (known_at done) ps ≡ map (λ t. Some t) ts = cc in
        All-cons (IsTypeOf l.types) t ts (means_known p t f).0 (parts_types ps ts g)

    pub parts_mean : (ps : List ℕ) (ts : List TypeId) → map (known_at done) ps ≡ map (λ t. Some t) ts → (κ : Notes) (ρ : ℕ → Ty) → Agrees text l.notes.places.items κ ρ → AllMean sig text κ nodes ps (map (λ t. noted_types l.types ρ t.0) ts)
    parts_mean [] [] e κ ρ G = no_parts
    parts_mean [] (t ∷ ts) e κ ρ G = absurd (cc)
    parts_mean (p ∷ ps) [] e κ ρ G = absurd (cc)
    parts_mean (p ∷ ps) (t ∷ ts) e κ ρ G =
        let f : known_at done p ≡ Some t = cc in
        let g : map (known_at done) ps ≡ map (λ t. Some t) ts = cc in
        more_parts p ps (noted_types l.types ρ t.0) (map (λ t. noted_types l.types ρ t.0) ts) ((means_known p t f).1 κ ρ G) (parts_mean ps ts g κ ρ G)

    part_nothing : (κ : Notes) (ps : List ℕ) (p i : ℕ) → i < length ps → get_or ps i p ≡ p → known_at done p ≡ None → AreBelow (length done) ps → (Ts : List Ty) → AllMean sig text κ nodes ps Ts → ⊥
    part_nothing κ ps p i h e none below Ts no_parts = absurd (omega (arith, h))
    part_nothing κ ps p zero h e none below Ts (more_parts n ns A As m more) = means_nothing κ n A (ap (known_at done) e ∙ none) below.0 m
    part_nothing κ ps p (suc i) h e none below Ts (more_parts n ns A As m more) = part_nothing κ ns p i (omega (arith, h)) e none below.1 As more

    pub word_nothing : (s : Spot) (ps : Vec ℕ Global) (p : ℕ) → Contains ps.items p → known_at done p ≡ None → slice_get nodes (length done) ≡ Some (Word s ps) → (κ : Notes) (A : Ty) → Means sig text κ nodes (length done) A → ⊥
    word_nothing s ps p c none at κ A (function m a b C D at' lc ld mc md) =
        let e : Word s ps ≡ Arrow a b = one_value (slice_get nodes (length done)) (Word s ps) (Arrow a b) at at' in absurd (cc)
    word_nothing s ps p c none at κ A (word m t qs Ts B at' below parts is) =
        let e : Word s ps ≡ Word t qs = one_value (slice_get nodes (length done)) (Word s ps) (Word t qs) at at' in
        let f : ps ≡ qs = cc in
        let d : Contains qs.items p = subst (λ v. Contains v.items p) f c in
        part_nothing κ qs.items p d.0 d.1 d.2 none below Ts parts

  -- a word on its arguments

  means_count : (κ : Notes) (ps : List ℕ) (Ts : List Ty) → AllMean sig text κ nodes ps Ts → length Ts ≡ length ps
  means_count κ ps Ts no_parts = refl
  means_count κ ps Ts (more_parts n ns A As m more) = ap (λ k. suc k) (means_count κ ns As more)

  pub word_not : (n : ℕ) (s : Spot) (ps : Vec ℕ Global) → slice_get nodes n ≡ Some (Word s ps) → (κ : Notes) → ((Ts : List Ty) → length Ts ≡ length ps.items → word_type sig text κ s Ts ≡ None) → (A : Ty) → Means sig text κ nodes n A → ⊥
  word_not n s ps at κ none A (function m a b C D at' lc ld mc md) =
      let e : Word s ps ≡ Arrow a b = one_value (slice_get nodes n) (Word s ps) (Arrow a b) at at' in absurd (cc)
  word_not n s ps at κ none A (word m t qs Ts B at' below parts is) =
      let e : Word s ps ≡ Word t qs = one_value (slice_get nodes n) (Word s ps) (Word t qs) at at' in
      let f : s ≡ t = cc in
      let g : ps ≡ qs = cc in
      let h : None ≡ Some A = sym (none Ts (means_count κ qs.items Ts parts ∙ ap (λ v. length v.items) (sym g))) ∙ ap (λ r. word_type sig text κ r Ts) f ∙ is in
      absurd (cc)

  pub word_means : (n : ℕ) (s : Spot) (ps : Vec ℕ Global) (κ : Notes) (Ts : List Ty) (A : Ty) → slice_get nodes n ≡ Some (Word s ps) → AreBelow n ps.items → AllMean sig text κ nodes ps.items Ts → word_type sig text κ s Ts ≡ Some A → Means sig text κ nodes n A
  word_means n s ps κ Ts A at below parts is = word n s ps Ts A at below parts is

-- a kind and an abbreviation on types

noted_types_of : (b c : Nodes) → Extends b c → (ρ : ℕ → Ty) (parts : List TypeId) → AreTypesOf b parts → map (λ t. noted_types c ρ t.0) parts ≡ map (instance ρ) (trees_of b parts)
noted_types_of b c E ρ parts k =
    sym (map_map (instance ρ) (λ t. type_tree c t.0) parts) ∙ ap (map (instance ρ)) (type_trees_later b c parts E k)

as_many : (b : Nodes) (ρ : ℕ → Ty) (parts : List TypeId) (n : ℕ) → length parts ≡ n → length (map (λ t. noted_types b ρ t.0) parts) ≡ n
as_many b ρ parts n e = length-map parts (λ t. noted_types b ρ t.0) ∙ e

pub kind_is : (sig : Signature) (name : List ℕ) (b c : Nodes) (parts : List TypeId) (o : Option (ℕ × ℕ)) (number arity : ℕ) (id : TypeId) → Extends b c → AreTypesOf b parts → o ≡ Some (number, arity) → length parts ≡ arity →
    IsType c id (con number (tys (trees_of b parts))) → (ρ : ℕ → Ty) → kind_type sig name (map (λ t. noted_types c ρ t.0) parts) o ≡ Some (noted_types c ρ id.0)
kind_is sig name b c parts o number arity id E k e l h ρ =
    let Ts = map (λ t. noted_types c ρ t.0) parts in
    ap (kind_type sig name Ts) e ∙ ap (λ t. if t then Some (con number (tys Ts)) else None) (eq-eqb (length Ts) arity (as_many c ρ parts arity l)) ∙
    ap (λ us. Some (con number (tys us))) (noted_types_of b c E ρ parts k) ∙ ap (λ us. Some (con number us)) (tys_instance ρ (trees_of b parts)) ∙ ap (λ T. Some (instance ρ T)) (sym h.1)

pub abbreviation_is : (sig : Signature) (name : List ℕ) (b c s : Nodes) (parts : List TypeId) (o p : Option (ℕ × ℕ)) (count body : ℕ) (id : TypeId) → Extends b c → AreTypesOf b parts → o ≡ None →
    found name (map abbreviation_row sig.abbreviations.items) ≡ Some (count, body) → length parts ≡ count → s ≡ sig.bank → IsType c id (instance (type_at (trees_of b parts)) (type_tree s body)) →
    (ρ : ℕ → Ty) → kind_type sig name (map (λ t. noted_types c ρ t.0) parts) o ≡ Some (noted_types c ρ id.0)
abbreviation_is sig name b c s parts o p count body id E k e f l g h ρ =
    let Ts = map (λ t. noted_types c ρ t.0) parts in
    let B = type_tree sig.bank body in
    ap (kind_type sig name Ts) e ∙ ap (abbreviated_type sig.bank Ts) f ∙ ap (λ t. if t then Some (instance (type_at Ts) B) else None) (eq-eqb (length Ts) count (as_many c ρ parts count l)) ∙
    ap (λ us. Some (instance (type_at us) B)) (noted_types_of b c E ρ parts k) ∙ ap (λ T. Some T) (sym (scheme_instance (record { count = 0; body = B }) ρ (trees_of b parts))) ∙
    ap (λ n. Some (instance ρ (instance (type_at (trees_of b parts)) (type_tree n body)))) (sym g) ∙ ap (λ T. Some (instance ρ T)) (sym h.1)

pub noted_same : (b c : Nodes) → Extends b c → (ρ : ℕ → Ty) (ts : List TypeId) → AreTypesOf b ts → map (λ t. noted_types b ρ t.0) ts ≡ map (λ t. noted_types c ρ t.0) ts
noted_same b c E ρ ts k =
    noted_types_of b b (extends_same b) ρ ts k ∙ sym (noted_types_of b c E ρ ts k)

same_count : (done : List (Option TypeId)) (ps : List ℕ) (ts : List TypeId) → map (known_at done) ps ≡ map (λ t. Some t) ts → length ps ≡ length ts
same_count done ps ts e = sym (length-map ps (known_at done)) ∙ ap length e ∙ length-map ts (λ t. Some t)

no_variable : (text : List ℕ) (κ : Notes) (s : Spot) (Ts : List Ty) → 0 < length Ts → variable_type text κ s Ts ≡ None
no_variable text κ s [] h = absurd (omega (arith, h))
no_variable text κ s (T ∷ Ts) h = refl

if_is : {A : Type 0} (b c : Bool) (x y z : A) → b ≡ c → (if c then x else y) ≡ z → (if b then x else y) ≡ z
if_is b c x y z e f = ap (λ t. if t then x else y) e ∙ f

module _ (sig : Signature) (text : List ℕ) (nodes : List RawTypeNode) (old new : Lookup) (done : List (Option TypeId)) (N : AreNoted sig text nodes old done) (G : NotesGrow text old new) (s : Spot) (ps : Vec ℕ Global) (ts : List TypeId) where
  pub word_kind : map (known_at done) ps.items ≡ map (λ t. Some t) ts → slice_get nodes (length done) ≡ Some (Word s ps) → begins_variable (spelled text s) ≡ false → (o : Option TypeId) → KindNoted sig (spelled text s) ts new o → NodeNoted sig text nodes new (length done) o
  word_kind e at low None K = λ κ A m.
      word_not sig text nodes (length done) s ps at κ
      (λ Ts l. if_is (begins_variable (spelled text s)) false (variable_type text κ s Ts) (kind_type sig (spelled text s) Ts (found (spelled text s) (standard_kinds ++ map kind_row sig.kinds.items))) None low (K Ts (l ∙ same_count done ps.items ts e)))
      A m
  word_kind e at low (Some id) K = (
    K.0,
    λ κ ρ A.
        let Ts = map (λ t. noted_types new.types ρ t.0) ts in
        let known = parts_types sig text nodes old done N ps.items ts e in
        word_means sig text nodes (length done) s ps κ Ts (noted_types new.types ρ id.0) at (parts_below sig text nodes old done N ps.items ts e)
        (subst (AllMean sig text κ nodes ps.items) (noted_same old.types new.types G.types ρ ts known) (parts_mean sig text nodes old done N ps.items ts e κ ρ (G.agrees κ ρ A)))
        (if_is (begins_variable (spelled text s)) false (variable_type text κ s Ts) (kind_type sig (spelled text s) Ts (found (spelled text s) (standard_kinds ++ map kind_row sig.kinds.items))) (Some (noted_types new.types ρ id.0)) low (K.1 ρ)),
  )

  pub word_on_parts : map (known_at done) ps.items ≡ map (λ t. Some t) ts → slice_get nodes (length done) ≡ Some (Word s ps) → begins_variable (spelled text s) ≡ true → 0 < length ts → (κ : Notes) (A : Ty) → Means sig text κ nodes (length done) A → ⊥
  word_on_parts e at high some κ A m =
      word_not sig text nodes (length done) s ps at κ
      (λ Ts l.
      let n = same_count done ps.items ts e in
      if_is (begins_variable (spelled text s)) true (variable_type text κ s Ts) (kind_type sig (spelled text s) Ts (found (spelled text s) (standard_kinds ++ map kind_row sig.kinds.items))) None high (no_variable text κ s Ts (omega (arith, l, n, some))))
      A m

  pub word_variable : map (known_at done) ps.items ≡ map (λ t. Some t) ts → slice_get nodes (length done) ≡ Some (Word s ps) → begins_variable
      (spelled text s) ≡ true → ts ≡ [] → (κ : Notes) (A : Ty) → A ≡ (if is_blank (spelled text s) then κ.blank s.from else κ.named (spelled text s))
      → Means sig text κ nodes (length done) A
  word_variable e at high none κ A is =
      let f : map (known_at done) ps.items ≡ [] = e ∙ ap (map (λ t. Some t)) none in
      word_means sig text nodes (length done) s ps κ [] A at (parts_below sig text nodes old done N ps.items ts e) (all_mean_none ps.items f)
      (if_is (begins_variable (spelled text s)) true (variable_type text κ s []) (kind_type sig (spelled text s) [] (found (spelled text s) (standard_kinds ++ map kind_row sig.kinds.items))) (Some A) high (ap (λ T. Some T) (sym is)))
    where
      all_mean_none : (ps : List ℕ) → map (known_at done) ps ≡ [] → AllMean sig text κ nodes ps []
      all_mean_none [] f = no_parts
      all_mean_none (p ∷ ps) f = absurd (cc)

pub some_parts : (n m : ℕ) → n ≡ m → (n == 0) ≡ false → 0 < m
some_parts zero m e f = absurd (true≢false f)
some_parts (suc n) m e f = omega (arith, e)

pub no_elements : {A : Type 0} (xs : List A) (n : ℕ) → length xs ≡ n → (n == 0) ≡ true → xs ≡ []
no_elements [] n e f = refl
no_elements (x ∷ xs) n e f = let g : n ≡ 0 = eqb-true n 0 f in absurd (omega (arith, e, g))

-- one node more

get_pushed : {A : Type 0} (xs : List A) (x y : A) (n : ℕ) → slice_get (xs ++ x ∷ []) n ≡ Some y → (slice_get xs n ≡ Some y) ⊎ ((n ≡ length xs) × (y ≡ x))
get_pushed [] x y zero e = let f : x ≡ y = cc in inr (refl, sym f)
get_pushed [] x y (suc n) e = absurd (cc)
get_pushed (z ∷ xs) x y zero e = inl e
get_pushed (z ∷ xs) x y (suc n) e = further (get_pushed xs x y n e) where
  further : (slice_get xs n ≡ Some y) ⊎ ((n ≡ length xs) × (y ≡ x)) → (slice_get xs n ≡ Some y) ⊎ ((suc n ≡ suc (length xs)) × (y ≡ x))
  further (inl f) = inl f
  further (inr h) = inr (ap (λ k. suc k) h.0, h.1)

module _ (sig : Signature) (text : List ℕ) (nodes : List RawTypeNode) (old new : Lookup) (G : NotesGrow text old new) where
  node_stays : (n : ℕ) (o : Option TypeId) → NodeNoted sig text nodes old n o → NodeNoted sig text nodes new n o
  node_stays n None h = h
  node_stays n (Some id) h =
      (let m = G.types.more_types in omega (arith, h.0, m), λ κ ρ A. subst (λ T. Means sig text κ nodes n (instance ρ T)) (sym (G.types.same_types id.0 h.0)) (h.1 κ ρ (G.agrees κ ρ A)))

  pub noted_pushed : (done more : List (Option TypeId)) (made : Option TypeId) → AreNoted sig text nodes old done → more ≡ done ++ made ∷ [] → NodeNoted sig text nodes new (length done) made → AreNoted sig text nodes new more
  noted_pushed done more made N e h = λ n o f. by n o (get_pushed done made o n (ap (λ l. slice_get l n) (sym e) ∙ f)) where
    by : (n : ℕ) (o : Option TypeId) → (slice_get done n ≡ Some o) ⊎ ((n ≡ length done) × (o ≡ made)) → NodeNoted sig text nodes new n o
    by n o (inl f) = node_stays n o (N n o f)
    by n o (inr f) = subst (λ m. NodeNoted sig text nodes new m o) (sym f.0) (subst (NodeNoted sig text nodes new (length done)) (sym f.1) h)

pub none_noted : (sig : Signature) (text : List ℕ) (nodes : List RawTypeNode) (l : Lookup) (done : List (Option TypeId)) → done ≡ [] → AreNoted sig text nodes l done
none_noted sig text nodes l done e = λ n o f. let g : None ≡ Some o = ap (λ ds. slice_get ds n) (sym e) ∙ f in absurd (cc)

pub note_read : (sig : Signature) (text : List ℕ) (raw : RawType) (old l : Lookup) (done : List (Option TypeId)) → AreNoted sig text raw.nodes.items l done → length raw.nodes.items ≤ length done → (o : Option TypeId) → o ≡ known_at done raw.root → NoteRead sig text (Some raw) old l o
note_read sig text raw old l done N h None e = λ κ given n.
    let below = means_below sig text raw.nodes.items κ raw.root n.0 n.2 in
    means_nothing sig text raw.nodes.items l done N κ raw.root n.0 (sym e) (omega (arith, h, below)) n.2
note_read sig text raw old l done N h (Some id) e =
    let k = means_known sig text raw.nodes.items l done N raw.root id (sym e) in
    (k.0, λ κ ρ A. (noted_types l.types ρ id.0, refl, k.1 κ ρ A))

-- the beginning of an abstraction

module _ (sig : Signature) (text : List ℕ) (name : List ℕ) (outside : Option ℕ) where
  pub opened_plain : (note : Option RawType) (old new : Lookup) → note ≡ None → IsBegun name None old new outside → IsOpened sig text name note old new outside
  opened_plain written old new e B = record {
    given = None;
    noted = (tt, λ κ ρ A. subst (λ n. IsNoted sig text κ n None) (sym e) refl);
    steps = B.steps;
    types = subst (Extends old.types) (sym B.types) (extends_same old.types);
    agrees = λ κ ρ A. subst (λ f. Agrees text f.places.items κ ρ) B.notes A;
    firsts = λ f. subst (AreFirsts text) (sym B.notes) f;
    variables = B.variables;
    scope = B.scope;
  }

  abbrev read_in : (note : Option RawType) (given : Option TypeId) → Nodes → Firsts → Type 0
  read_in note given b f = IsGivenKnown (length b.types) given × ((κ : Notes) (ρ : ℕ → Ty) → Agrees text f.places.items κ ρ → IsNoted sig text κ note (given_type (noted_types b ρ) given))

  pub opened_noted : (note : Option RawType) (raw : RawType) (old mid new : Lookup) (id : TypeId) → note ≡ Some raw → NotesGrow text old mid → IsNoteRead sig text (Some raw) old mid (Some id) → IsBegun name (Some id) mid new outside → IsOpened sig text name note old new outside
  opened_noted written raw old mid new id e G N B = record {
    given = Some id;
    noted = subst (λ n. read_in n (Some id) new.types new.notes) (sym e) (subst (λ b. read_in (Some raw) (Some id) b new.notes) (sym B.types) (subst (λ f. read_in (Some raw) (Some id) mid.types f) (sym B.notes) N));
    steps = B.steps ∙ ap (λ v. v.items ++ step.Open (Some id) ∷ []) G.steps;
    types = subst (Extends old.types) (sym B.types) G.types;
    agrees = λ κ ρ A. G.agrees κ ρ (subst (λ f. Agrees text f.places.items κ ρ) B.notes A);
    firsts = λ f. subst (AreFirsts text) (sym B.notes) (G.firsts f);
    variables = B.variables ∙ G.variables;
    scope = λ names H. B.scope names (subst (HasScope names) (sym G.scope) H);
  }
