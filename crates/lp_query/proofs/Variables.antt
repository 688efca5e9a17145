-- A text has one list of variables.
use Rattle.std.proofs.Common.{◌≡◌, ℕ, ◌+◌, ◌<◌, ◌≤◌, List, [], ◌∷◌, ◌++◌, length, map, get_or, Bool, true, false, Option, Some, None, Ok, refl, sym, ap, ◌∙◌, subst, add-one}
use Rattle.std.specs.Prelude.{slice_get, take, codes, if◌then◌else◌}
use Rattle.std.proofs.lemmas.List.{take_all}
use Rattle.std.specs.Str.{bytes_eq}
use Rattle.std.proofs.lemmas.Option.{slice_get-get_or}
use Rattle.lp_lemmas.proofs.Options.{one_value}
use Rattle.lp_lemmas.proofs.Lists.{map_pushed, take_suc}
use Rattle.lp_base.specs.declared.place.Spot.{Spot}
use Rattle.lp_lexer.proofs.Once.{one_reading}
use Rattle.lp_fixity.specs.Table.{entry_of}
use Rattle.lp_term.specs.declared.node.TypeId.{TypeId}
use Rattle.lp_syntax.specs.declared.class.Class.{Class}
use Rattle.lp_syntax.specs.declared.class.Class.TheVariants as class
use Rattle.lp_syntax.specs.declared.text.RawNode.{RawNode}
use Rattle.lp_syntax.specs.declared.text.RawNode.TheVariants.{Name, Known, Number, Text, App, Abs}
use Rattle.lp_syntax.specs.declared.text.RawType.{RawType}
use Rattle.lp_syntax.specs.declared.text.RawQuery.{RawQuery}
use Rattle.lp_syntax.specs.Symbols.{Tree, Leaf, Cons, Nil, Lam, App as Applied}
use Rattle.lp_syntax.specs.Tokens.{Lexeme, class_at, bytes_at, lexemes, spot_at}
use Rattle.lp_syntax.specs.Raw.{leaf_in, leaf, Shows, leaf_node, cons_node, nil_node, app_node, abs_node}
use Rattle.lp_syntax.specs.Queries.{IsQueryText}
use Rattle.lp_syntax.proofs.QueryFaults.{one_query}
use Rattle.lp_sig.specs.declared.signature.Signature.{Signature}
use Rattle.lp_sig.specs.Pieces.{spelled, begins_variable}
use Rattle.lp_sig.specs.Places.{first_place}
use Rattle.lp_sig.specs.Rows.{found, number_row}
use Rattle.lp_sig.specs.Standard.{standard_constants}
use Rattle.lp_infer.specs.Typing.{Raw}
use Rattle.lp_infer.specs.Texts.{Notes, Read, Reads, read_leaf, read_name, read_bound, read_free, read_variable, read_number, read_constant, constant_scheme, is_blank}
use Rattle.lp_infer.specs.Texts.{leaf as a_leaf, application, abstraction}
use Rattle.lp_infer.proofs.Visiting.{reads_app, reads_abs}
use Rattle.lp_query.specs.Variables.{Reader, AreVariables}

-- the first places of the variables so far, of what is read
abbrev places_of : Read → Option (List Spot)
places_of None = None
places_of (Some r) = Some r.1

-- they do not depend on how many variables there are in all
module _ (sig : Signature) (text : List ℕ) (c d : ℕ) (scope : List (List ℕ)) (before : List Spot) where
  same_variable : (s : Spot) (k : Option ℕ) → places_of (read_variable c scope s k before) ≡ places_of (read_variable d scope s k before)
  same_variable s None = refl
  same_variable s (Some k) = refl

  same_free : (s : Spot) (b : Bool) (k : Option ℕ) (r : Read) → places_of (if b then read_variable c scope s k before else r) ≡ places_of (if b then read_variable d scope s k before else r)
  same_free s true k r = same_variable s k
  same_free s false k r = refl

  same_bound : (s : Spot) (i : Option ℕ) → places_of (read_bound sig text c scope s i before) ≡ places_of (read_bound sig text d scope s i before)
  same_bound s None = same_free s (begins_variable (spelled text s)) (first_place (spelled text s) (map (spelled text) before)) (read_number sig (spelled text s) (found (spelled text s) (standard_constants ++ map number_row sig.constants.items)) before)
  same_bound s (Some i) = refl

  same_named : (s : Spot) (b : Bool) (i : Option ℕ) → places_of (if b then read_variable c scope s None before else read_bound sig text c scope s i before) ≡ places_of (if b then read_variable d scope s None before else read_bound sig text d scope s i before)
  same_named s true i = refl
  same_named s false i = same_bound s i

  same_leaf : (node : RawNode) → places_of (read_leaf sig text c scope node before) ≡ places_of (read_leaf sig text d scope node before)
  same_leaf (Name s) = same_named s (is_blank (spelled text s)) (first_place (spelled text s) scope)
  same_leaf (Known k s) = refl
  same_leaf (Number z s) = refl
  same_leaf (Text s) = refl
  same_leaf (App f x) = refl
  same_leaf (Abs s o b) = refl

-- a node without parts
abbrev is_plain : RawNode → Bool
is_plain (App f x) = false
is_plain (Abs s o b) = false
is_plain _ = true

module _ (s : Spot) (w : List ℕ) where
  plain_word : (b : Bool) → is_plain (if b then Known 0 s else Name s) ≡ true
  plain_word true = refl
  plain_word false = refl

  plain_in : (k : Class) → is_plain (leaf_in s w k) ≡ true
  plain_in class.Lower = plain_word (bytes_eq w (codes "&"))
  plain_in class.Upper = plain_word (bytes_eq w (codes "&"))
  plain_in class.Symbol = plain_word (bytes_eq w (codes "&"))
  plain_in class.Comma = plain_word (bytes_eq w (codes "&"))
  plain_in class.Colon = plain_word (bytes_eq w (codes "&"))
  plain_in class.Arrow = plain_word (bytes_eq w (codes "&"))
  plain_in (class.Number n) = refl
  plain_in class.Text = refl
  plain_in class.Open = plain_word (bytes_eq w (codes "&"))
  plain_in class.Close = plain_word (bytes_eq w (codes "&"))
  plain_in class.OpenList = plain_word (bytes_eq w (codes "&"))
  plain_in class.CloseList = plain_word (bytes_eq w (codes "&"))
  plain_in class.Bar = plain_word (bytes_eq w (codes "&"))
  plain_in class.Dot = plain_word (bytes_eq w (codes "&"))
  plain_in class.Backslash = plain_word (bytes_eq w (codes "&"))
  plain_in (class.Keyword k) = plain_word (bytes_eq w (codes "&"))
  plain_in class.Unsupported = plain_word (bytes_eq w (codes "&"))
  plain_in class.End = plain_word (bytes_eq w (codes "&"))

plain_leaf : (spot : ℕ → Spot) (ls : List Lexeme) (k : ℕ) → is_plain (leaf spot ls k) ≡ true
unfolding leaf
plain_leaf spot ls k = plain_in (spot k) (bytes_at ls k) (class_at ls k)

-- what stands at the root of a tree
module _ (spot : ℕ → Spot) (ls : List Lexeme) (nodes : List RawNode) where
  at_leaf : (n : ℕ) (t : Tree) (k : ℕ) → t ≡ Leaf k → Shows spot ls nodes n t → slice_get nodes n ≡ Some (leaf spot ls k)
  at_leaf n t k e (leaf_node i j at) = let z : j ≡ k = cc in subst (λ m. slice_get nodes i ≡ Some (leaf spot ls m)) z at
  at_leaf n t k e (cons_node i j at) = absurd (cc)
  at_leaf n t k e (nil_node i j at) = absurd (cc)
  at_leaf n t k e (app_node i f x u v at lf lx sf sx) = absurd (cc)
  at_leaf n t k e (abs_node i x v y o u at l m b) = absurd (cc)

  at_cons : (n : ℕ) (t : Tree) (k : ℕ) → t ≡ Cons k → Shows spot ls nodes n t → slice_get nodes n ≡ Some (Known 14 (spot k))
  at_cons n t k e (leaf_node i j at) = absurd (cc)
  at_cons n t k e (cons_node i j at) = let z : j ≡ k = cc in subst (λ m. slice_get nodes i ≡ Some (Known 14 (spot m))) z at
  at_cons n t k e (nil_node i j at) = absurd (cc)
  at_cons n t k e (app_node i f x u v at lf lx sf sx) = absurd (cc)
  at_cons n t k e (abs_node i x v y o u at l m b) = absurd (cc)

  at_nil : (n : ℕ) (t : Tree) (k : ℕ) → t ≡ Nil k → Shows spot ls nodes n t → slice_get nodes n ≡ Some (Known 15 (spot k))
  at_nil n t k e (leaf_node i j at) = absurd (cc)
  at_nil n t k e (cons_node i j at) = absurd (cc)
  at_nil n t k e (nil_node i j at) = let z : j ≡ k = cc in subst (λ m. slice_get nodes i ≡ Some (Known 15 (spot m))) z at
  at_nil n t k e (app_node i f x u v at lf lx sf sx) = absurd (cc)
  at_nil n t k e (abs_node i x v y o u at l m b) = absurd (cc)

  record OfApplied (n : ℕ) (t u : Tree) : Type 0 where
    pub head : ℕ
    pub argument : ℕ
    pub there : slice_get nodes n ≡ Some (App head argument)
    pub shows_head : Shows spot ls nodes head t
    pub shows_argument : Shows spot ls nodes argument u

  at_applied : (n : ℕ) (w t u : Tree) → w ≡ Applied t u → Shows spot ls nodes n w → OfApplied n t u
  at_applied n w t u e (leaf_node i j at) = absurd (cc)
  at_applied n w t u e (cons_node i j at) = absurd (cc)
  at_applied n w t u e (nil_node i j at) = absurd (cc)
  at_applied n w t u e (app_node i f x t' u' at lf lx sf sx) =
      let a : t' ≡ t = cc in
      let b : u' ≡ u = cc in
      record { head = f; argument = x; there = at; shows_head = subst (Shows spot ls nodes f) a sf; shows_argument = subst (Shows spot ls nodes x) b sx }
  at_applied n w t u e (abs_node i x v y o z at l m b) = absurd (cc)

  record OfLam (n v : ℕ) (t : Tree) : Type 0 where
    pub note : Option RawType
    pub body : ℕ
    pub there : slice_get nodes n ≡ Some (Abs (spot v) note body)
    pub shows_body : Shows spot ls nodes body t

  at_lam : (n v : ℕ) (y : Option ℕ) (w t : Tree) → w ≡ Lam v y t → Shows spot ls nodes n w → OfLam n v t
  at_lam n v y w t e (leaf_node i j at) = absurd (cc)
  at_lam n v y w t e (cons_node i j at) = absurd (cc)
  at_lam n v y w t e (nil_node i j at) = absurd (cc)
  at_lam n v y w t e (app_node i f x t' u' at lf lx sf sx) = absurd (cc)
  at_lam n v y w t e (abs_node i x v' y' note t' at l m b) =
      let a : v' ≡ v = cc in
      let c : t' ≡ t = cc in
      record { note = note; body = x; there = subst (λ z. slice_get nodes i ≡ Some (Abs (spot z) note x)) a at; shows_body = subst (Shows spot ls nodes x) c b }

-- the variables behind a node without parts
module _ (sig : Signature) (text : List ℕ) (nodes : List RawNode) (κ : Notes) (count : ℕ) where
  behind_leaf : (scope : List (List ℕ)) (before : List Spot) (n : ℕ) (node : RawNode) (R : Raw) (after : List Spot) → is_plain node ≡ true → slice_get nodes n ≡ Some node
      → Reads sig text nodes κ count scope before n R after → places_of (read_leaf sig text count scope node before) ≡ Some after
  behind_leaf scope before n node R after p at (a_leaf scope' before' m other Q last at' is') =
      let e : other ≡ node = one_value (slice_get nodes n) other node at' at in
      ap (λ x. places_of (read_leaf sig text count scope x before)) (sym e) ∙ ap places_of is'
  behind_leaf scope before n node R after p at (application scope' before' m f x F X middle last at' lf lx rf rx) =
      let e : node ≡ App f x = one_value (slice_get nodes n) node (App f x) at at' in
      let q : is_plain node ≡ false = ap is_plain e in
      absurd (cc)
  behind_leaf scope before n node R after p at (abstraction scope' before' m s o b given B last at' lb noted rb) =
      let e : node ≡ Abs s o b = one_value (slice_get nodes n) node (Abs s o b) at at' in
      let q : is_plain node ≡ false = ap is_plain e in
      absurd (cc)

-- two readings of one tree find the same variables
module _ (sig : Signature) (text : List ℕ) (spot : ℕ → Spot) (ls : List Lexeme) (nodes nodes' : List RawNode) (κ κ' : Notes) (count count' : ℕ) where
  same_plain : (n n' : ℕ) (node : RawNode) → is_plain node ≡ true → slice_get nodes n ≡ Some node → slice_get nodes' n' ≡ Some node → (scope : List (List ℕ)) (before : List Spot) (R R' : Raw) (after after' : List Spot)
      → Reads sig text nodes κ count scope before n R after → Reads sig text nodes' κ' count' scope before n' R' after' → after ≡ after'
  same_plain n n' node p at at' scope before R R' after after' r r' =
      let e : Some after ≡ Some after' = sym (behind_leaf sig text nodes κ count scope before n node R after p at r) ∙ (same_leaf sig text count count' scope before node ∙ behind_leaf sig text nodes' κ' count' scope before n' node R' after' p at' r') in
      cc

  same_places : (n n' : ℕ) (t : Tree) → Shows spot ls nodes n t → Shows spot ls nodes' n' t → (scope : List (List ℕ)) (before : List Spot) (R R' : Raw) (after after' : List Spot)
      → Reads sig text nodes κ count scope before n R after → Reads sig text nodes' κ' count' scope before n' R' after' → after ≡ after'
  same_places n n' t (leaf_node i k at) s' scope before R R' after after' r r' =
      same_plain n n' (leaf spot ls k) (plain_leaf spot ls k) at (at_leaf spot ls nodes' n' t k refl s') scope before R R' after after' r r'
  same_places n n' t (cons_node i k at) s' scope before R R' after after' r r' =
      same_plain n n' (Known 14 (spot k)) refl at (at_cons spot ls nodes' n' t k refl s') scope before R R' after after' r r'
  same_places n n' t (nil_node i k at) s' scope before R R' after after' r r' =
      same_plain n n' (Known 15 (spot k)) refl at (at_nil spot ls nodes' n' t k refl s') scope before R R' after after' r r'
  same_places n n' w (app_node i f x t u at lf lx sf sx) s' scope before R R' after after' r r' =
      let o = at_applied spot ls nodes' n' w t u refl s' in
      let p = reads_app sig text nodes κ count scope before n f x R after at r in
      let q = reads_app sig text nodes' κ' count' scope before n' o.head o.argument R' after' o.there r' in
      let e : p.middle ≡ q.middle = same_places f o.head t sf o.shows_head scope before p.head q.head p.middle q.middle p.reads_head q.reads_head in
      same_places x o.argument u sx o.shows_argument scope p.middle p.argument q.argument after after' p.reads_argument
      (subst (λ m. Reads sig text nodes' κ' count' scope m o.argument q.argument after') (sym e) q.reads_argument)
  same_places n n' w (abs_node i x v y note t at l m b) s' scope before R R' after after' r r' =
      let o = at_lam spot ls nodes' n' v y w t refl s' in
      let p = reads_abs sig text nodes κ count scope before n (spot v) note x R after at r in
      let q = reads_abs sig text nodes' κ' count' scope before n' (spot v) o.note o.body R' after' o.there r' in
      same_places x o.body t b o.shows_body (spelled text (spot v) ∷ scope) before p.body q.body after after' p.reads_body q.reads_body

pub one_list : (r : Reader) (text : List ℕ) (ns ms : List (List ℕ)) → AreVariables r text ns → AreVariables r text ms → ns ≡ ms
one_list r text ns ms a b =
    let ls = lexemes text b.tokens in
    let ops = entry_of r.table in
    let e : a.tokens ≡ b.tokens = (one_reading text 0 a.tokens b.tokens (Ok a.lexed.0) (Ok b.lexed.0) a.lexed.1 b.lexed.1).tokens in
    let read : IsQueryText (spot_at 0 text b.tokens) ops ls a.raw = subst (λ ts. IsQueryText (spot_at 0 text ts) ops (lexemes text ts) a.raw) e a.read in
    let t : read.tree ≡ b.read.tree = one_query ops ls read.tree b.read.tree read.is b.read.is in
    let places : a.places ≡ b.places = same_places r.signature text (spot_at 0 text b.tokens) ls a.raw.term.nodes.items b.raw.term.nodes.items a.typed.typing.notes b.typed.typing.notes (length a.places) (length b.places)
    a.raw.term.root b.raw.term.root b.read.tree (subst (Shows (spot_at 0 text b.tokens) ls a.raw.term.nodes.items a.raw.term.root) t read.nodes) b.read.nodes [] [] a.typed.typing.looked_up b.typed.typing.looked_up a.places b.places
    a.typed.typing.reads b.typed.typing.reads in
    a.are ∙ (ap (map (spelled text)) places ∙ sym b.are)

-- the names of the variables so far, and one more
pub names_more : (text : List ℕ) (vars : List (Spot × TypeId)) (at : ℕ) (d : Spot × TypeId) (done all : List (List ℕ)) → at < length vars → done ≡ map (spelled text) (map (λ v. v.0) (take at vars)) → all ≡ done ++ spelled text (get_or vars at d).0 ∷ []
    → all ≡ map (spelled text) (map (λ v. v.0) (take (at + 1) vars))
names_more text vars at d done all h e a =
    let v = get_or vars at d in
    let more : take (at + 1) vars ≡ take at vars ++ v ∷ [] = ap (λ n. take n vars) (add-one at) ∙ take_suc vars at v (slice_get-get_or vars at d h) in
    a ∙ (ap (λ z. z ++ spelled text v.0 ∷ []) e
    ∙ sym (map_pushed (spelled text) (map (λ v. v.0) (take at vars)) (map (λ v. v.0) (take (at + 1) vars)) v.0 (map_pushed (λ v. v.0) (take at vars) (take (at + 1) vars) v more)))

pub names_end : (text : List ℕ) (vars : List (Spot × TypeId)) (at : ℕ) (all : List (List ℕ)) → length vars ≤ at → all ≡ map (spelled text) (map (λ v. v.0) (take at vars)) → all ≡ map (spelled text) (map (λ v. v.0) vars)
names_end text vars at all h e = e ∙ ap (λ z. map (spelled text) (map (λ v. v.0) z)) (take_all at vars h)
