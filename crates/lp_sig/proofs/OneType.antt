-- A type as written has one tree: its node tells which word it is, and each part has one.
use Rattle.std.specs.Global.{Global}
use Rattle.std.proofs.Common.{◌≡◌, ℕ, List, [], ◌∷◌, length, true, false, true≢false, Option, Some, sym, ap, subst, ◌∙◌}
use Rattle.std.specs.Prelude.{Vec}
use Rattle.std.proofs.lemmas.List.{get_or_default}
use Rattle.std.proofs.lemmas.Option.{same_Some}
use Rattle.lp_sig.proofs.Instances.{two_sides}
use Rattle.lp_lemmas.proofs.Lists.{cons_equal, cons_head, cons_tail}
use Rattle.lp_base.specs.declared.place.Spot.{Spot}
use Rattle.lp_calculus.specs.Types.{Ty, var, con, tys}
use Rattle.lp_syntax.specs.declared.text.RawType.{RawType}
use Rattle.lp_syntax.specs.declared.text.RawTypeNode.{RawTypeNode}
use Rattle.lp_syntax.specs.declared.text.RawTypeNode.TheVariants as node
use Rattle.lp_sig.specs.Pieces.{spelled, begins_variable}
use Rattle.lp_sig.specs.Rows.{Row, found}
use Rattle.lp_sig.specs.Said.{Said, a_kind, an_abbreviation}
use Rattle.lp_sig.specs.Words.{meaning_of}
use Rattle.lp_sig.specs.Types.{kind_number_of, Definition, on_arguments, by_parameters, IsNode, IsTypeOf, AreTypesOf, a_variable, kind_on, abbreviation_on, an_arrow, no_more, one_more, IsBodyOf, written_body, given_body, in_text, as_tree, HasBody}

same_node : (nodes : List RawTypeNode) (i : ℕ) (n m : RawTypeNode) → IsNode nodes i n → IsNode nodes i m → n ≡ m
same_node nodes i n m h k = sym h.1 ∙ get_or_default nodes i n m h.0 ∙ k.1

pub same_word : (s z : Spot) (a b : Vec ℕ Global) → node.Word s a ≡ node.Word z b → s ≡ z
same_word s z a b e = cc

same_arguments : (s z : Spot) (a b : Vec ℕ Global) → node.Word s a ≡ node.Word z b → a ≡ b
same_arguments s z a b e = cc

same_from : (a b c d : ℕ) → node.Arrow a b ≡ node.Arrow c d → a ≡ c
same_from a b c d e = cc

same_to : (a b c d : ℕ) → node.Arrow a b ≡ node.Arrow c d → b ≡ d
same_to a b c d e = cc

no_word : (s : Spot) (a : Vec ℕ Global) (b c : ℕ) → node.Word s a ≡ node.Arrow b c → ⊥
no_word s a b c e = absurd (cc)

same_con : (k j : ℕ) (ts us : List Ty) → k ≡ j → ts ≡ us → con k (tys ts) ≡ con j (tys us)
same_con k j ts us e f = cc

no_kind_is : (n m : ℕ) → Some (a_kind n) ≡ Some (an_abbreviation m) → ⊥
no_kind_is n m e = absurd (cc)

no_tree : (text : List ℕ) (ps : List Spot) (ty : RawType) (t : Ty) → in_text text ps ty ≡ as_tree t → ⊥
no_tree text ps ty t e = absurd (cc)

same_tree : (t u : Ty) → as_tree t ≡ as_tree u → t ≡ u
same_tree t u e = cc

not_empty : (i : ℕ) (is : List ℕ) → [] ≡ i ∷ is → ⊥
not_empty i is e = absurd (cc)

module _ (said : List (Row Said)) (defs : List (Row Definition)) where
  -- which kind of word a node is
  module _ (text : List ℕ) (nodes : List RawTypeNode) (i : ℕ) (s z : Spot) (a b : Vec ℕ Global) (at : IsNode nodes i (node.Word s a)) (here : IsNode nodes i (node.Word z b)) where
    word_is : s ≡ z
    word_is = same_word s z a b (same_node nodes i (node.Word s a) (node.Word z b) at here)

    arguments_are : a ≡ b
    arguments_are = same_arguments s z a b (same_node nodes i (node.Word s a) (node.Word z b) at here)

    not_both : begins_variable (spelled text s) ≡ true → begins_variable (spelled text z) ≡ false → ⊥
    not_both v w = true≢false (sym v ∙ ap (λ s. begins_variable (spelled text s)) word_is ∙ w)

    one_meaning : (m n : Said) → meaning_of (spelled text s) said ≡ Some m → meaning_of (spelled text z) said ≡ Some n → Some m ≡ Some n
    one_meaning m n v w = sym v ∙ ap (λ s. meaning_of (spelled text s) said) word_is ∙ w

    one_number : (m n : ℕ) → kind_number_of (spelled text s) said ≡ Some m → kind_number_of (spelled text z) said ≡ Some n → m ≡ n
    one_number m n v w = same_Some m n (sym v ∙ ap (λ s. kind_number_of (spelled text s) said) word_is ∙ w)

    one_definition : (d e : Definition) → found (spelled text s) defs ≡ Some d → found (spelled text z) defs ≡ Some e → d ≡ e
    one_definition d e v w = same_Some d e (sym v ∙ ap (λ s. found (spelled text s) defs) word_is ∙ w)

  -- the tree of a definition in a text
  abbrev IsIn : Definition → Ty → Type 0
  IsIn (in_text text ps ty) t = IsTypeOf said defs text (by_parameters text ps) ty.nodes.items ty.root t
  IsIn (as_tree u) t = ⊥

  mutual
    pub one_type : (text : List ℕ) (ν : ℕ → Spot → Option ℕ) (nodes : List RawTypeNode) (i : ℕ) (t u : Ty) → IsTypeOf said defs text ν nodes i t → IsTypeOf said defs text ν nodes i u → t ≡ u
    one_type text ν nodes i t u (a_variable s a n at v is e) (a_variable z b m here w same f) = e ∙ ap var (same_Some n m (sym is ∙ ap (ν i) (word_is text nodes i s z a b at here) ∙ same)) ∙ sym f
    one_type text ν nodes i t u (a_variable s a n at v is e) (kind_on z b k us here w means number parts f) = absurd (not_both text nodes i s z a b at here v w)
    one_type text ν nodes i t u (a_variable s a n at v is e) (abbreviation_on z b d body us here w means declared inner parts f) = absurd (not_both text nodes i s z a b at here v w)
    one_type text ν nodes i t u (a_variable s a n at v is e) (an_arrow c d x y here left right f) = absurd (no_word s a c d (same_node nodes i (node.Word s a) (node.Arrow c d) at here))
    one_type text ν nodes i t u (kind_on s a k ts at v means number parts e) (a_variable z b m here w same f) = absurd (not_both text nodes i z s b a here at w v)
    one_type text ν nodes i t u (kind_on s a k ts at v means number parts e) (kind_on z b j us here w meant numbered others f) =
        e ∙ same_con k j ts us (one_number text nodes i s z a b at here k j number numbered) (one_list text ν nodes a.items b.items ts us parts others (ap (λ v. v.items) (arguments_are text nodes i s z a b at here))) ∙ sym f
    one_type text ν nodes i t u (kind_on s a k ts at v means number parts e) (abbreviation_on z b d body us here w meant declared inner others f) =
        absurd (no_kind_is (length a.items) (length b.items) (one_meaning text nodes i s z a b at here (a_kind (length a.items)) (an_abbreviation (length b.items)) means meant))
    one_type text ν nodes i t u (kind_on s a k ts at v means number parts e) (an_arrow c d x y here left right f) = absurd (no_word s a c d (same_node nodes i (node.Word s a) (node.Arrow c d) at here))
    one_type text ν nodes i t u (abbreviation_on s a d body ts at v means declared inner parts e) (a_variable z b m here w same f) = absurd (not_both text nodes i z s b a here at w v)
    one_type text ν nodes i t u (abbreviation_on s a d body ts at v means declared inner parts e) (kind_on z b k us here w meant number others f) =
        absurd (no_kind_is (length b.items) (length a.items) (one_meaning text nodes i z s b a here at (a_kind (length b.items)) (an_abbreviation (length a.items)) meant means))
    one_type text ν nodes i t u (abbreviation_on s a d body ts at v means declared inner parts e) (abbreviation_on z b c other us here w meant known deeper others f) =
        let same : d ≡ c = one_definition text nodes i s z a b at here d c declared known in
        let bodies : body ≡ other = same_body d body other inner (subst (λ d. IsBodyOf said defs d other) (sym same) deeper) in
        e ∙ ap (on_arguments ts) bodies ∙ ap (λ ts. on_arguments ts other) (one_list text ν nodes a.items b.items ts us parts others (ap (λ v. v.items) (arguments_are text nodes i s z a b at here))) ∙ sym f
    one_type text ν nodes i t u (abbreviation_on s a d body ts at v means declared inner parts e) (an_arrow b c x y here left right f) = absurd (no_word s a b c (same_node nodes i (node.Word s a) (node.Arrow b c) at here))
    one_type text ν nodes i t u (an_arrow b c x y at left right e) (a_variable z a m here w same f) = absurd (no_word z a b c (same_node nodes i (node.Word z a) (node.Arrow b c) here at))
    one_type text ν nodes i t u (an_arrow b c x y at left right e) (kind_on z a k us here w means number parts f) = absurd (no_word z a b c (same_node nodes i (node.Word z a) (node.Arrow b c) here at))
    one_type text ν nodes i t u (an_arrow b c x y at left right e) (abbreviation_on z a d body us here w means declared inner parts f) = absurd (no_word z a b c (same_node nodes i (node.Word z a) (node.Arrow b c) here at))
    one_type text ν nodes i t u (an_arrow b c x y at left right e) (an_arrow j k v w here first second f) =
        let p = same_node nodes i (node.Arrow b c) (node.Arrow j k) at here in
        e ∙ two_sides x v y w (one_type text ν nodes b x v left (subst (λ j. IsTypeOf said defs text ν nodes j v) (sym (same_from b c j k p)) first)) (one_type text ν nodes c y w right (subst (λ j. IsTypeOf said defs text ν nodes j w) (sym (same_to b c j k p)) second)) ∙ sym f

    one_list : (text : List ℕ) (ν : ℕ → Spot → Option ℕ) (nodes : List RawTypeNode) (is js : List ℕ) (ts us : List Ty) → AreTypesOf said defs text ν nodes is ts → AreTypesOf said defs text ν nodes js us → is ≡ js → ts ≡ us
    one_list text ν nodes is js ts us (no_more e f) (no_more g h) same = f ∙ sym h
    one_list text ν nodes is js ts us (no_more e f) (one_more j more u rest g h first others) same = absurd (not_empty j more (sym e ∙ same ∙ g))
    one_list text ν nodes is js ts us (one_more i more t rest e f first others) (no_more g h) same = absurd (not_empty i more (sym g ∙ sym same ∙ e))
    one_list text ν nodes is js ts us (one_more i more t rest e f first others) (one_more j behind u left g h second further) same =
        let p = sym e ∙ same ∙ g in
        f ∙ cons_equal t u rest left (one_type text ν nodes i t u first (subst (λ j. IsTypeOf said defs text ν nodes j u) (sym (cons_head i j more behind p)) second)) (one_list text ν nodes more behind rest left others further (cons_tail i j more behind p)) ∙ sym h

    same_body : (d : Definition) (t u : Ty) → IsBodyOf said defs d t → IsBodyOf said defs d u → t ≡ u
    same_body d t u (written_body text ps ty e apart is) (written_body z qs tz f distinct here) =
        one_type text (by_parameters text ps) ty.nodes.items ty.root t u is (subst (λ d. IsIn d u) (sym f ∙ e) here)
    same_body d t u (written_body text ps ty e apart is) (given_body v f g) = absurd (no_tree text ps ty v (sym e ∙ f))
    same_body d t u (given_body v f g) (written_body text ps ty e apart is) = absurd (no_tree text ps ty v (sym e ∙ f))
    same_body d t u (given_body v e f) (given_body w g h) = f ∙ same_tree v w (sym e ∙ g) ∙ sym h

  -- a name is declared as one tree
  pub one_body : (name : List ℕ) (t u : Ty) → HasBody said defs name t → HasBody said defs name u → t ≡ u
  one_body name t u h k =
      let same = same_Some h.definition k.definition (sym h.declared ∙ k.declared) in
      same_body h.definition t u h.is (subst (λ d. IsBodyOf said defs d u) (sym same) k.is)
