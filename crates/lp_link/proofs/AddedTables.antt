-- Entries that are put behind the tables so far.
use Rattle.std.proofs.Common.{◌≡◌, ◌∙◌, ◌+◌, ◌<◌, ◌≤◌, ℕ, Bool, true, false, List, [], ◌∷◌, ◌++◌, length, map, drop, get_or, ap, refl, sym, subst, arith, append_assoc}
use Rattle.std.specs.Prelude.{All}
use Rattle.std.proofs.lemmas.List.{append-nil, drop_all, map-append}
use Rattle.std.proofs.lemmas.List.Elements.{All-nil, All-cons, All-head, All-tail, All-push}
use Rattle.lp_calculus.specs.Term.{atom, logic}
use Rattle.lp_calculus.specs.Typing.{Scheme}
use Rattle.lp_term.specs.Nodes.{Nodes, Extends, type_tree}
use Rattle.lp_term.specs.Mapped.{IsMap, mapped_type}
use Rattle.lp_code.specs.declared.object.Object.{Object}
use Rattle.lp_code.specs.declared.object.ObjectKind.{ObjectKind}
use Rattle.lp_code.specs.declared.object.ObjectConstant.{ObjectConstant}
use Rattle.lp_code.specs.declared.image.ImageKind.{ImageKind}
use Rattle.lp_code.specs.declared.image.ImageConstant.{ImageConstant}
use Rattle.lp_code.specs.Naming.{image_arity, object_arity, scheme_in}
use Rattle.lp_link.specs.declared.image.Making.{Making}
use Rattle.lp_link.specs.declared.names.Open.{Open}
use Rattle.lp_link.specs.Told.{told_by}
use Rattle.lp_link.specs.Renumbering.{moved_scheme}
use Rattle.lp_link.specs.Linked.{kinds_of, constants_of, map_of}
use Rattle.lp_link.specs.inner.Entering.{open_copy}
use Rattle.lp_link.specs.Names.{hidden_of, exported_of, moved_schemes}
use Rattle.lp_link.specs.inner.Tabled.{arities_of, made_arities, made_schemes, AddsTables, KindsSoFar, ConstantsSoFar}
use Rattle.lp_link.proofs.MadeCopies.{tables_then}
use Rattle.lp_link.proofs.NumberedNames.{entries_drop}

schemes_later : (b d : Nodes) (cs : List ImageConstant) → Extends b d → All (λ (c : ImageConstant). c.scheme.0 < length b.types) cs
    → map (λ (c : ImageConstant). scheme_in d c.type_vars c.scheme.0) cs ≡ map (λ (c : ImageConstant). scheme_in b c.type_vars c.scheme.0) cs
schemes_later b d [] e w = refl
schemes_later b d (c ∷ cs) e w =
    let here = e.same_types c.scheme.0 (All-head (λ (c : ImageConstant). c.scheme.0 < length b.types) c cs w) in
    let more = schemes_later b d cs e (All-tail (λ (c : ImageConstant). c.scheme.0 < length b.types) c cs w) in
    λ i. record { count = c.type_vars; body = here i } ∷ more i

banked_later : (b d : Nodes) (cs : List ImageConstant) → Extends b d → All (λ (c : ImageConstant). c.scheme.0 < length b.types) cs → All (λ (c : ImageConstant). c.scheme.0 < length d.types) cs
banked_later b d [] e w = All-nil (λ (c : ImageConstant). c.scheme.0 < length d.types)
banked_later b d (c ∷ cs) e w =
    let here = All-head (λ (c : ImageConstant). c.scheme.0 < length b.types) c cs w in
    let l = e.more_types in
    All-cons (λ (c : ImageConstant). c.scheme.0 < length d.types) c cs (omega (arith, here, l)) (banked_later b d cs e (All-tail (λ (c : ImageConstant). c.scheme.0 < length b.types) c cs w))

-- the bank may grow
pub tables_grown : (old new : Making) → new.kinds.items ≡ old.kinds.items → new.constants.items ≡ old.constants.items → Extends old.bank new.bank → AddsTables old new [] []
tables_grown old new ek ec grown = record {
  kinds = ap (map image_arity) ek ∙ sym (append-nil (made_arities old));
  constants = λ h. ap (map (λ (c : ImageConstant). scheme_in new.bank c.type_vars c.scheme.0)) ec ∙ schemes_later old.bank new.bank old.constants.items grown h ∙ sym (append-nil (made_schemes old));
  banked = λ h. subst (All (λ (c : ImageConstant). c.scheme.0 < length new.bank.types)) (sym ec) (banked_later old.bank new.bank old.constants.items grown h);
}

pub kind_added : (old new : Making) (k : ImageKind) → new.kinds.items ≡ old.kinds.items ++ k ∷ [] → new.constants.items ≡ old.constants.items →
    new.bank ≡ old.bank → AddsTables old new (image_arity k ∷ []) []
kind_added old new k ek ec eb = record {
  kinds = ap (map image_arity) ek ∙ map-append image_arity old.kinds.items (k ∷ []);
  constants = λ h. (λ i. map (λ (c : ImageConstant). scheme_in (eb i) c.type_vars c.scheme.0) (ec i)) ∙ sym (append-nil (made_schemes old));
  banked = λ h. subst (λ (b : Nodes). All (λ (c : ImageConstant). c.scheme.0 < length b.types) new.constants.items) (sym eb)
      (subst (All (λ (c : ImageConstant). c.scheme.0 < length old.bank.types)) (sym ec) h);
}

pub constant_added : (old new : Making) (k : ImageConstant) → new.kinds.items ≡ old.kinds.items → new.constants.items ≡ old.constants.items ++ k ∷ []
    → new.bank ≡ old.bank → k.scheme.0 < length old.bank.types
    → AddsTables old new [] (scheme_in old.bank k.type_vars k.scheme.0 ∷ [])
constant_added old new k ek ec eb l = record {
  kinds = ap (map image_arity) ek ∙ sym (append-nil (made_arities old));
  constants = λ h. (λ i. map (λ (c : ImageConstant). scheme_in (eb i) c.type_vars c.scheme.0) (ec i)) ∙ map-append
      (λ (c : ImageConstant). scheme_in old.bank c.type_vars c.scheme.0) old.constants.items (k ∷ []);
  banked = λ h. subst (λ (b : Nodes). All (λ (c : ImageConstant). c.scheme.0 < length b.types) new.constants.items) (sym eb)
      (subst (All (λ (c : ImageConstant). c.scheme.0 < length old.bank.types)) (sym ec) (All-push (λ (c : ImageConstant). c.scheme.0 < length old.bank.types) old.constants.items k h l));
}

-- one more entry, or none
pub kinds_begin : (m : Making) (all : List ℕ) → Extends m.bank m.bank → KindsSoFar m m all all
kinds_begin m all e = ([], tables_grown m m refl refl e, refl)

pub constants_begin : (m : Making) (all : List Scheme) → Extends m.bank m.bank → ConstantsSoFar m m all all
constants_begin m all e = ([], tables_grown m m refl refl e, refl)

pub kinds_next : (old now mid new : Making) (v : ℕ) (rest rest' all : List ℕ) → rest ≡ v ∷ rest' → AddsTables now mid [] [] → AddsTables mid new
    (v ∷ []) [] → KindsSoFar old now rest all → KindsSoFar old new rest' all
kinds_next old now mid new v rest rest' all e between adds (ks, a, is) = (
  ks ++ v ∷ [],
  tables_then old now new ks (v ∷ []) [] [] a (tables_then now mid new [] (v ∷ []) [] [] between adds),
  append_assoc ks (v ∷ []) rest' ∙ ap (λ l. ks ++ l) (sym e) ∙ is,
)

pub constants_next : (old now mid new : Making) (s v : Scheme) (rest rest' all : List Scheme) → rest ≡ v ∷ rest' → s ≡ v → AddsTables now mid [] [] →
    AddsTables mid new [] (s ∷ []) → ConstantsSoFar old now rest all → ConstantsSoFar old new rest' all
constants_next old now mid new s v rest rest' all e same between adds (ss, a, is) = (
  ss ++ s ∷ [],
  tables_then old now new [] [] ss (s ∷ []) a (tables_then now mid new [] [] [] (s ∷ []) between adds),
  append_assoc ss (s ∷ []) rest' ∙ ap (λ x. ss ++ x ∷ rest') same ∙ ap (λ l. ss ++ l) (sym e) ∙ is,
)

pub kinds_done : (old now : Making) (rest all : List ℕ) → rest ≡ [] → KindsSoFar old now rest all → AddsTables old now all []
kinds_done old now rest all e (ks, a, is) = subst (λ l. AddsTables old now l []) (sym (append-nil ks) ∙ ap (λ l. ks ++ l) (sym e) ∙ is) a

pub constants_done : (old now : Making) (rest all : List Scheme) → rest ≡ [] → ConstantsSoFar old now rest all → AddsTables old now [] all
constants_done old now rest all e (ss, a, is) = subst (AddsTables old now []) (sym (append-nil ss) ∙ ap (λ l. ss ++ l) (sym e) ∙ is) a

-- the first of what is left is picked, or passed over
module _ {A : Type 0} (es : List (List ℕ × Bool)) (vs : List A) (at : ℕ) (name : List ℕ) (v : A) where
  picks : (b : Bool) → drop at es ≡ (name, b) ∷ drop (at + 1) es → drop at vs ≡ v ∷ drop (at + 1) vs → hidden_of (drop at es) (drop at vs) ≡ hidden_of
      ((name, b) ∷ drop (at + 1) es) (v ∷ drop (at + 1) vs)
  picks b e f = λ i. hidden_of (e i) (f i)

  picks_exported : (b : Bool) → drop at es ≡ (name, b) ∷ drop (at + 1) es → drop at vs ≡ v ∷ drop (at + 1) vs → exported_of (drop at es) (drop at vs)
      ≡ exported_of ((name, b) ∷ drop (at + 1) es) (v ∷ drop (at + 1) vs)
  picks_exported b e f = λ i. exported_of (e i) (f i)

  pub hidden_picked : (b : Bool) → b ≡ false → drop at es ≡ (name, b) ∷ drop (at + 1) es → drop at vs ≡ v ∷ drop (at + 1) vs → hidden_of (drop at es)
      (drop at vs) ≡ v ∷ hidden_of (drop (at + 1) es) (drop (at + 1) vs)
  hidden_picked b q e f = picks b e f ∙ ap (λ b. hidden_of ((name, b) ∷ drop (at + 1) es) (v ∷ drop (at + 1) vs)) q

  pub hidden_passed : (b : Bool) → b ≡ true → drop at es ≡ (name, b) ∷ drop (at + 1) es → drop at vs ≡ v ∷ drop (at + 1) vs → hidden_of (drop at es)
      (drop at vs) ≡ hidden_of (drop (at + 1) es) (drop (at + 1) vs)
  hidden_passed b q e f = picks b e f ∙ ap (λ b. hidden_of ((name, b) ∷ drop (at + 1) es) (v ∷ drop (at + 1) vs)) q

  pub exported_picked : (b : Bool) → b ≡ true → drop at es ≡ (name, b) ∷ drop (at + 1) es → drop at vs ≡ v ∷ drop (at + 1) vs → exported_of
      (drop at es) (drop at vs) ≡ v ∷ exported_of (drop (at + 1) es) (drop (at + 1) vs)
  exported_picked b q e f = picks_exported b e f ∙ ap (λ b. exported_of ((name, b) ∷ drop (at + 1) es) (v ∷ drop (at + 1) vs)) q

  pub exported_passed : (b : Bool) → b ≡ false → drop at es ≡ (name, b) ∷ drop (at + 1) es → drop at vs ≡ v ∷ drop (at + 1) vs → exported_of
      (drop at es) (drop at vs) ≡ exported_of (drop (at + 1) es) (drop (at + 1) vs)
  exported_passed b q e f = picks_exported b e f ∙ ap (λ b. exported_of ((name, b) ∷ drop (at + 1) es) (v ∷ drop (at + 1) vs)) q

pub none_hidden : {A : Type 0} (es : List (List ℕ × Bool)) (vs : List A) (at : ℕ) → length es ≤ at → hidden_of (drop at es) (drop at vs) ≡ []
none_hidden es vs at l = ap (λ l. hidden_of l (drop at vs)) (drop_all at es l)

pub none_exported : {A : Type 0} (es : List (List ℕ × Bool)) (vs : List A) (at : ℕ) → length es ≤ at → exported_of (drop at es) (drop at vs) ≡ []
none_exported es vs at l = ap (λ l. exported_of l (drop at vs)) (drop_all at es l)

-- the entries of an object, from a place on
pub kind_entry : (o : Object) (xs : List ObjectKind) (at : ℕ) (k : ObjectKind) → xs ≡ o.kinds.items → at < length xs → k ≡ get_or xs at k →
    (drop at (kinds_of o) ≡ (k.name.items, k.exported) ∷ drop (at + 1) (kinds_of o)) ×
    (drop at (arities_of o) ≡ k.arity ∷ drop (at + 1) (arities_of o))
kind_entry o xs at k same l is = (entries_drop (λ (k : ObjectKind). (k.name.items, k.exported)) xs o.kinds.items at k same l is, entries_drop object_arity xs o.kinds.items at k same l is)

pub constant_entry : (o : Open) (xs : List ObjectConstant) (at : ℕ) (k : ObjectConstant) → xs ≡ o.member.now.object.now.constants.items → at < length xs → k ≡ get_or xs at k
    → (drop at (constants_of o.member.now.object.now) ≡ (k.name.items, k.exported) ∷ drop (at + 1) (constants_of o.member.now.object.now))
    × (drop at (moved_schemes (open_copy o)) ≡ moved_scheme (map_of 0 (open_copy o)) (scheme_in o.member.now.object.now.bank k.type_vars k.scheme.0) ∷ drop (at + 1) (moved_schemes (open_copy o)))
constant_entry o xs at k same l is =
    let f : ObjectConstant → Scheme = λ (c : ObjectConstant). moved_scheme (map_of 0 (open_copy o)) (scheme_in o.member.now.object.now.bank c.type_vars c.scheme.0) in (
      entries_drop (λ (k : ObjectConstant). (k.name.items, k.exported)) xs o.member.now.object.now.constants.items at k same l is,
      subst (λ vs. drop at vs ≡ f k ∷ drop (at + 1) vs) (sym (twice o.member.now.object.now.constants.items)) (entries_drop f xs o.member.now.object.now.constants.items at k same l is),
    )
  where
    twice : (cs : List ObjectConstant) → map (moved_scheme (map_of 0 (open_copy o))) (map (λ (c : ObjectConstant). scheme_in o.member.now.object.now.bank c.type_vars c.scheme.0) cs)
        ≡ map (λ (c : ObjectConstant). moved_scheme (map_of 0 (open_copy o)) (scheme_in o.member.now.object.now.bank c.type_vars c.scheme.0)) cs
    twice [] = refl
    twice (c ∷ cs) = ap (λ l. moved_scheme (map_of 0 (open_copy o)) (scheme_in o.member.now.object.now.bank c.type_vars c.scheme.0) ∷ l) (twice cs)

-- what is told of a copy's numbers
pub is_map_of : (o : Open) (b d : Nodes) → IsMap (told_by o.names) (map_of 0 (open_copy o)) b d
is_map_of o b d = record { kinds = λ k. refl; constants = λ k. refl; types = λ x. refl; terms = λ x l. ap (λ n. atom (logic x n)) (let z : l + 0 ≡ l = omega arith in z) }

pub scheme_moved : (o : Open) (count : ℕ) (from to : Nodes) (i j : ℕ) → type_tree to j ≡ mapped_type (map_of 0 (open_copy o)) (type_tree from i) →
    scheme_in to count j ≡ moved_scheme (map_of 0 (open_copy o)) (scheme_in from count i)
scheme_moved o count from to i j e = λ x. record { count = count; body = e x }
