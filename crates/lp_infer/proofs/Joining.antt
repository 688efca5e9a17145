-- What is read off under a most general solution of a text's equations is the principal typing of the text; without a solution the text has no typing.
use Rattle.std.proofs.Common.{◌≡◌, ℕ, zero, suc, ◌+◌, ◌-◌, ◌<◌, ◌≤◌, zero-add, add-one, le_refl, inl, inr, List, [], ◌∷◌, ◌++◌, map, reverse, length, take, drop, refl, sym, ap, subst, ◌∙◌, Option, Some, None, true, arith}
use Rattle.std.specs.Prelude.{codes, slice_get, get_or, ◌⊎◌}
use Rattle.std.proofs.lemmas.Bool.{cases_lt}
use Rattle.std.proofs.lemmas.List.{append-nil, reverse-reverse, length-map, take_all, take_more}
use Rattle.std.proofs.lemmas.Slice.Eq.{bytes_eq-Decides}
use Rattle.lp_sig.proofs.Heads.{place_below}
use Rattle.lp_term.proofs.Walks.{map_map}
use Rattle.lp_lemmas.proofs.Lists.{map_take, take_suc, map_pushed}
use mathlib.Core.List.{reverse-cons}
use mathlib.Core.Path.{fun_ext}
use Rattle.indexmap.specs.IndexMap.{IndexMap}
use Rattle.lp_base.specs.declared.place.Spot.{Spot}
use Rattle.lp_calculus.specs.Types.{Ty, var, instance}
use Rattle.lp_calculus.specs.Typing.{o_type}
use Rattle.lp_type_laws.specs.Equations.{Equation, equation, AllHold, IsMostGeneral, HaveNoSolution, Below}
use Rattle.lp_type_laws.proofs.Types.{instance-var}
use Rattle.lp_type_laws.proofs.Solves.{hold_append}
use Rattle.lp_term.specs.Nodes.{Nodes, Extends, type_tree}
use Rattle.lp_term.specs.declared.node.TypeId.{TypeId}
use Rattle.lp_type_unify.specs.declared.bindings.Pair.{Pair}
use Rattle.lp_type_unify.specs.Reading.{reads, read_pair, read_pairs}
use Rattle.lp_syntax.specs.declared.text.RawTerm.{RawTerm}
use Rattle.lp_model.specs.declared.program.Typed.{Typed}
use Rattle.lp_sig.specs.declared.signature.Signature.{Signature}
use Rattle.lp_sig.specs.Pieces.{spelled}
use Rattle.lp_sig.specs.Places.{first_place}
use Rattle.lp_infer.specs.Typing.{Raw, term_arguments}
use Rattle.lp_infer.specs.Texts.{Notes, is_blank, HasNoTextTyping, IsPrincipalTyping}
use Rattle.lp_infer.specs.Generate.{fresh, generate, generated, IsScoped}
use Rattle.lp_infer.specs.Numbering.{all_variables, IsTyped, typing_of, typing_variables, AreNumbered}
use Rattle.lp_infer.specs.Postfix.{postfix, mark}
use Rattle.lp_infer.specs.Running.{Sofar, sofar, run}
use Rattle.lp_infer.specs.Visits.{marks, IsLookedUp, HasNoReading}
use Rattle.lp_infer.specs.Making.{held, IsGenerated}
use Rattle.lp_infer.specs.Copies.{trees_of}
use Rattle.lp_infer.specs.Filling.{fills, IsTerm}
use Rattle.lp_infer.specs.ReadingOff.{bound_type, ReadsAll}
use Rattle.lp_infer.specs.Meeting.{met, renaming}
use Rattle.lp_infer.specs.declared.reading.Reading.{Reading}
use Rattle.lp_infer.specs.Formulas.{wanted_types, variables_of, in_order, HasTypes}
use Rattle.lp_infer.specs.declared.lookup.Step.{Step}
use Rattle.lp_infer.specs.declared.lookup.Lookup.{Lookup}
use Rattle.lp_infer.specs.declared.generate.Typing.{Typing}
use Rattle.lp_infer.proofs.Principal.{no_typing}
use Rattle.lp_infer.proofs.LookedUp.{or_goal, notes_of, notes_agree}
use Rattle.lp_infer.proofs.Scoped.{NotesBelow, is_scoped}
use Rattle.lp_infer.proofs.Marked.{runs}
use Rattle.lp_infer.proofs.Whole.{principal_text, no_text}
use Rattle.lp_term.proofs.Within.{type_trees_later}
use Rattle.lp_infer.proofs.Typings.{types_under, in_numbers, is_principal, are_numbered, is_typing}

-- solutions

hold_turned : (ρ : ℕ → Ty) (es : List Equation) → AllHold ρ es → AllHold ρ (reverse es)
hold_turned ρ [] h = tt
hold_turned ρ (e ∷ es) h = subst (AllHold ρ) (sym (reverse-cons e es)) (hold_append ρ (reverse es) (e ∷ []) (hold_turned ρ es h.1) (h.0, tt))

hold_back_turned : (ρ : ℕ → Ty) (es : List Equation) → AllHold ρ (reverse es) → AllHold ρ es
hold_back_turned ρ es h = subst (AllHold ρ) (reverse-reverse es) (hold_turned ρ (reverse es) h)

equations_same : (A B C D : Ty) → A ≡ C → B ≡ D → equation A B ≡ equation C D
equations_same A B C D e f = cc

pairs_held : (b : Nodes) (ps : List Pair) → map (read_pair (type_tree b) var) ps ≡ map (held b) ps
pairs_held b [] = refl
pairs_held b (p ∷ ps) = ap (λ e. e ∷ map (read_pair (type_tree b) var) ps) (equations_same _ _ _ _ (instance-var (type_tree b p.left.0)) (instance-var (type_tree b p.right.0))) ∙ ap (λ es. held b p ∷ es) (pairs_held b ps)

module _ (b : Nodes) (ps : List Pair) (es : List Equation) (same : map (held b) ps ≡ es) where
  turned : read_pairs (type_tree b) var ps ≡ reverse es
  turned = ap reverse (pairs_held b ps ∙ same)

  general : (θ : ℕ → Ty) → IsMostGeneral (read_pairs (type_tree b) var ps) θ → IsMostGeneral es θ
  general θ M = record {
    solves = hold_back_turned θ es (subst (AllHold θ) turned M.solves);
    first = λ ρ h. M.first ρ (subst (AllHold ρ) (sym turned) (hold_turned ρ es h));
  }

  unsolved : HaveNoSolution (read_pairs (type_tree b) var ps) → HaveNoSolution es
  unsolved none ρ h = none ρ (subst (AllHold ρ) (sym turned) (hold_turned ρ es h))

-- the text that was read has the equations that were made
module _ (sig : Signature) (text : List ℕ) (steps : List Step) (names k : ℕ) (b : Nodes) (t : Typing) (R : Raw) (G : IsGenerated sig text steps names b k t) (list : postfix R ≡ map (mark text sig.bank names (type_tree b)) steps) where
  abbrev start : Sofar
  start = sofar (fresh names k) (k + names) [] (reverse (fresh names k)) []

  ran : run (map (mark text sig.bank names (type_tree b)) steps) start ≡ run (postfix R ++ []) start
  ran = ap (λ l. run l start) (sym list ∙ sym (append-nil (postfix R)))

  done : run (map (mark text sig.bank names (type_tree b)) steps) start ≡
      (let m = generate (fresh names k) R (k + names) in sofar (fresh names k) m.next m.equations (reverse (fresh names k) ++ term_arguments m.term) (m.type_is ∷ []))
  done = ran ∙ runs R [] (fresh names k) (k + names) [] (reverse (fresh names k)) []

  head_same : (A B : Ty) (As Bs : List Ty) → A ∷ As ≡ B ∷ Bs → A ≡ B
  head_same A B As Bs e = cc

  equations_are : map (held t.types) t.pairs.items ≡ (generated R names k).equations
  equations_are =
      let m = generate (fresh names k) R (k + names) in
      G.equations ∙ ap (λ s. s.equations ++ equation G.has o_type ∷ []) done ∙
      ap (λ A. m.equations ++ equation A o_type ∷ []) (head_same G.has m.type_is G.others [] (sym G.stack ∙ ap (λ s. s.stack) done))

  arguments_are : trees_of t.types t.wanted.items ≡ reverse (fresh names k) ++ term_arguments (generated R names k).term
  arguments_are = G.arguments ∙ ap (λ s. s.arguments) done

-- the text that was looked up

one_byte : (w : List ℕ) → is_blank w ≡ true → length w ≡ 1
one_byte w e = ap length ((bytes_eq-Decides w (codes "_")).0 e)

none_past : (xs : List ℕ) (i n : ℕ) → length xs ≤ i → length (take n (drop i xs)) ≡ 0
none_past [] zero zero h = refl
none_past [] zero (suc n) h = refl
none_past [] (suc i) zero h = refl
none_past [] (suc i) (suc n) h = refl
none_past (x ∷ xs) zero n h = absurd (omega (arith, h))
none_past (x ∷ xs) (suc i) n h = none_past xs i n (omega (arith, h))

blank_inside : (text : List ℕ) (s : Spot) → is_blank (spelled text s) ≡ true → s.from < length text
blank_inside text s e = go (cases_lt s.from (length text)) where
  go : (s.from < length text) ⊎ (length text ≤ s.from) → s.from < length text
  go (inl h) = h
  go (inr h) = absurd (let f = one_byte (spelled text s) e in let g = none_past text s.from (s.to - s.from) h in omega (arith, f, g))

module _ (text : List ℕ) (places : List Spot) where
  -- the type variables of annotations, as numbers
  abbrev numbers : Notes
  numbers = notes_of text places var

  named_below : (o : Option ℕ) → ((j : ℕ) → o ≡ Some j → j < length places) → Below (length text + length places) (or_goal (λ j. var (length text + j)) o)
  named_below None h = tt
  named_below (Some j) h = let l = h j refl in omega (arith, l)

  notes_below : NotesBelow (length text + length places) text (notes_of text places var)
  notes_below = record {
    named = λ w. named_below (first_place w (map (spelled text) places)) (λ j e. let l = place_below w (map (spelled text) places) j e in let m = length-map places (spelled text) in omega (arith, l, m));
    blank = λ s e. let l = blank_inside text s e in omega (arith, l);
  }

-- the text that was looked up, with numbers for the type variables of annotations
pub record IsFound (sig : Signature) (text : List ℕ) (raw : RawTerm) (l : Lookup) : Type 0 where
  pub found : Raw
  pub marked : postfix found ≡ marks sig text (length l.variables.places.items) var l
  pub scoped : IsScoped (length l.variables.places.items) (length text + length l.notes.places.items) found

pub is_found : (sig : Signature) (text : List ℕ) (raw : RawTerm) (l : Lookup) → IsLookedUp sig text raw.nodes.items raw.root l → IsFound sig text raw l
is_found sig text raw l L =
    let names = length l.variables.places.items in
    let k = length text + length l.notes.places.items in
    let κ = notes_of text l.notes.places.items var in
    let r = L.reads κ var names (notes_agree text l.notes.places.items var) in
    record {
      found = r.0;
      marked = r.2;
      scoped = subst (λ n. IsScoped n k r.0) (zero-add names) (is_scoped k names sig text raw.nodes.items κ (notes_below text l.notes.places.items) r.1 (le_refl names));
    }

module _ (sig : Signature) (text : List ℕ) (raw : RawTerm) (l : Lookup) (L : IsLookedUp sig text raw.nodes.items raw.root l) (t : Typing)
    (G : IsGenerated sig text l.steps.items (length l.variables.places.items) l.types (length text + length l.notes.places.items) t) where
  abbrev names_ : ℕ
  names_ = length l.variables.places.items

  abbrev next_ : ℕ
  next_ = length text + length l.notes.places.items

  F : IsFound sig text raw l
  F = is_found sig text raw l L

  list : postfix F.found ≡ map (mark text sig.bank names_ (type_tree l.types)) l.steps.items
  list = F.marked ∙ ap (λ τ. map (mark text sig.bank names_ τ) l.steps.items) (fun_ext (λ i. instance-var (type_tree l.types i)))

  same_equations : map (held t.types) t.pairs.items ≡ (generated F.found names_ next_).equations
  same_equations = equations_are sig text l.steps.items names_ next_ l.types t F.found G list

  -- without a solution there is no typing
  pub none_typed : HaveNoSolution (read_pairs (type_tree t.types) var t.pairs.items) → HasNoTextTyping sig text raw
  none_typed none = no_text sig text raw l F.found L F.marked (no_typing F.found names_ next_ F.scoped (unsolved t.types t.pairs.items (generated F.found names_ next_).equations same_equations none))

  -- the types that are wanted are those of the typing
  wanted_are : {S : Type 0} (made : IndexMap ℕ TypeId S) → wanted_types t made ≡ types_under F.found names_ next_ (reads t.types made)
  wanted_are made =
      map_map (bound_type t.types made) (λ i. i.0) t.wanted.items ∙ sym (map_map (instance (reads t.types made)) (λ i. type_tree t.types i.0) t.wanted.items) ∙
      ap (map (instance (reads t.types made))) (arguments_are sig text l.steps.items names_ next_ l.types t F.found G list)

  -- what is read off under a most general solution is the principal typing
  pub is_typed : {S : Type 0} (made : IndexMap ℕ TypeId S) (b : Nodes) (typed : Typed) → IsMostGeneral (read_pairs (type_tree t.types) var t.pairs.items) (reads t.types made) →
      HasTypes text l.steps.items l.variables.places.items (wanted_types t made) b typed → IsTyped sig text raw b typed
  is_typed made b typed M H =
      let θ = reads t.types made in
      let As = types_under F.found names_ next_ θ in
      let e : wanted_types t made ≡ As = wanted_are made in
      let same : typing_of b typed ≡ in_numbers F.found names_ next_ θ =
      (is_typing F.found names_ next_ θ b typed (H.types ∙ ap (λ Bs. take names_ (in_order Bs)) e) (H.formula F.found (type_tree l.types) sig.bank list ∙ ap (λ Bs. (fills F.found (drop names_ (in_order Bs))).0) e)) in
      let principal : IsPrincipalTyping sig text raw l.variables.places.items (in_numbers F.found names_ next_ θ) =
      (principal_text sig text raw l F.found L F.marked (in_numbers F.found names_ next_ θ) (is_principal F.found names_ next_ θ F.scoped (general t.types t.pairs.items (generated F.found names_ next_).equations same_equations θ M))) in
      record {
        principal = subst (λ ps. IsPrincipalTyping sig text raw ps (typing_of b typed)) (sym H.places) (subst (IsPrincipalTyping sig text raw l.variables.places.items) (sym same) principal);
        numbered = subst (λ n. AreNumbered 0 (typing_variables (typing_of b typed)) n) (sym (H.count ∙ ap (λ Bs. length (variables_of Bs)) e))
            (subst (λ T. AreNumbered 0 (typing_variables T) (length (variables_of As))) (sym same) (are_numbered F.found names_ next_ θ));
      }

-- a text that has no reading has no typing
pub none_read : (sig : Signature) (text : List ℕ) (raw : RawTerm) → HasNoReading sig text raw.nodes.items raw.root → HasNoTextTyping sig text raw
none_read sig text raw none places T I = none I.notes (length places) I.looked_up places I.reads

-- what was read off has the types that are wanted

pub has_types : (text : List ℕ) (steps : List Step) (spots : List Spot) (A : ℕ → Ty) (b c : Nodes) (ids types : List TypeId) (first last : Reading) (t : Typed) → Extends b c → first.numbers.keys ≡ [] → ReadsAll A b first last ids types →
    (map (λ v. v.0) t.vars.items ≡ spots) × (map (λ v. v.1) t.vars.items ≡ take (length spots) types) →
    ((R : Raw) (d : Nodes) (τ : ℕ → Ty) → postfix R ≡ map (mark text d (length spots) τ) steps → IsTerm c t.formula (fills R (drop (length spots) (trees_of b types))).0) → t.type_vars ≡ length last.numbers.keys →
    HasTypes text steps spots (map A (map (λ i. i.0) ids)) c t
has_types text steps spots A b c ids types first last t E none R vars formula count =
    let As = map A (map (λ i. i.0) ids) in
    let keys : last.numbers.keys ≡ variables_of As = R.numbers ∙ ap (λ N. met N (all_variables As)) none in
    let trees : trees_of b types ≡ in_order As = R.are.are ∙ ap (λ N. map (instance (renaming N)) As) keys in
    let stay : trees_of c types ≡ in_order As = type_trees_later b c types E R.are.known ∙ trees in
    record {
      places = vars.0;
      types =
          sym (map_map (λ i. type_tree c i.0) (λ v. v.1) t.vars.items) ∙ ap (map (λ i. type_tree c i.0)) vars.1 ∙ map_take (λ i. type_tree c i.0) (length spots) types ∙
          ap (take (length spots)) stay;
      formula = λ R τ d e. (formula R d τ e).1 ∙ ap (λ l. (fills R (drop (length spots) l)).0) trees;
      count = count ∙ ap length keys;
    }

-- the variables with their types

pub variable_more : (spots : List Spot) (types : List TypeId) (vs ws : List (Spot × TypeId)) (i : ℕ) (d : Spot) (id : TypeId) → i < length spots → slice_get types i ≡ Some id → map (λ v. v.0) vs ≡ take i spots → map (λ v. v.1) vs ≡ take i types →
    ws ≡ vs ++ (get_or spots i d, id) ∷ [] → (map (λ v. v.0) ws ≡ take (i + 1) spots) × (map (λ v. v.1) ws ≡ take (i + 1) types)
variable_more spots types vs ws i d id below got_id first second e = (
  map_pushed (λ v. v.0) vs ws (get_or spots i d, id) e ∙ ap (λ l. l ++ get_or spots i d ∷ []) first ∙ sym (take_more spots i d below),
  map_pushed (λ v. v.1) vs ws (get_or spots i d, id) e ∙ ap (λ l. l ++ id ∷ []) second ∙ sym (ap (λ k. take k types) (add-one i) ∙ take_suc types i id got_id),
)

pub variables_all : (spots : List Spot) (types : List TypeId) (vs : List (Spot × TypeId)) (i : ℕ) → length spots ≤ i → i ≤ length spots → map (λ v. v.0) vs ≡ take i spots → map (λ v. v.1) vs ≡ take i types →
    (map (λ v. v.0) vs ≡ spots) × (map (λ v. v.1) vs ≡ take (length spots) types)
variables_all spots types vs i low high first second =
    let e : i ≡ length spots = omega arith in
    (first ∙ take_all i spots low, second ∙ ap (λ k. take k types) e)

-- the same equations, as the calls give them
pub is_made : (sig : Signature) (text : List ℕ) (l : Lookup) (t : Typing) (steps : List Step) (count next : ℕ) → IsGenerated sig text steps count l.types next t → steps ≡ l.steps.items → count ≡ length l.variables.places.items → next ≡ length text + length l.notes.places.items →
    IsGenerated sig text l.steps.items (length l.variables.places.items) l.types (length text + length l.notes.places.items) t
is_made sig text l t steps count next G e f g =
    subst (λ s. IsGenerated sig text s (length l.variables.places.items) l.types (length text + length l.notes.places.items) t) e
    (subst (λ n. IsGenerated sig text steps n l.types (length text + length l.notes.places.items) t) f (subst (λ k. IsGenerated sig text steps count l.types k t) g G))
