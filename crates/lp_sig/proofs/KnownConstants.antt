-- Constants with their types, while more of them are known.
use Rattle.std.proofs.Common.{◌≡◌, ℕ, zero, suc, ◌<◌, List, [], ◌∷◌, ◌++◌, length, map, get_or, take, append_assoc, ◌+◌, refl, sym, ap, subst, ◌∙◌, arith, Bool, true, false, true≢false, Result, Ok, Err, Option, Some, None, inl, inr}
use Rattle.std.specs.Prelude.{◌⊎◌, if◌then◌else◌, option_map, slice_get, Contains, All, IfOk, OnOk}
use Rattle.std.specs.Str.{bytes_eq}
use Rattle.std.proofs.lemmas.List.{append-nil, take_more}
use Rattle.std.proofs.lemmas.List.Elements.{All-push, All-take, Contains-append_left, Contains-append_right, Contains-append_cases}
use Rattle.std.proofs.lemmas.Option.{same_Some}
use Rattle.std.proofs.lemmas.Slice.Eq.{bytes_eq-Decides}
use Rattle.lp_lemmas.proofs.Elements.{Contains_head, Contains_tail, Contains_single}
use Rattle.lp_calculus.specs.Types.{Ty}
use Rattle.lp_term.specs.Nodes.{Nodes, Extends, type_tree}
use Rattle.lp_term.specs.declared.node.TypeId.{TypeId}
use Rattle.lp_term.proofs.Trees.{extends_same, extends-trans}
use Rattle.lp_sig.specs.Holding.{IsTree}
use Rattle.lp_sig.specs.Places.{first_place, place_of}
use Rattle.lp_sig.specs.Rows.{found}
use Rattle.lp_sig.specs.Schemes.{first_variables}
use Rattle.lp_sig.specs.Standard.{standard_constants}
use Rattle.lp_sig.specs.Constants.{standard_tree}
use Rattle.lp_sig.specs.Worded.{HasWords, is_met_word}
use Rattle.lp_sig.specs.Sighted.{HasTree, standard_one, known_one, AreCounted, GrowsBehind, Grows, PutsBehind, IsCountedEntry, IsSeenEntry, AreNew}
use Rattle.lp_sig.specs.declared.entries.ConstantEntry.{ConstantEntry}
use Rattle.lp_sig.specs.declared.constants.Constant.{Constant}
use Rattle.lp_sig.specs.declared.constants.Constants.{Constants}
use Rattle.lp_sig.specs.declared.constants.DeclaredType.{DeclaredType}
use Rattle.lp_sig.specs.declared.making.Making.{Making}
use Rattle.lp_sig.specs.declared.see.Sight.{Sight}
use Rattle.lp_sig.specs.declared.see.Sight.TheVariants.{Alike}

pub grows_same : (c : Constants) → GrowsBehind c c
grows_same c = ([], sym (append-nil c.constants.items))

pub grows_then : (a b c : Constants) → GrowsBehind a b → GrowsBehind b c → GrowsBehind a c
grows_then a b c (xs, e) (ys, f) = (xs ++ ys, f ∙ ap (λ l. l ++ ys) e ∙ append_assoc_at a.constants.items)
  where
    append_assoc_at : (zs : List Constant) → (zs ++ xs) ++ ys ≡ zs ++ (xs ++ ys)
    append_assoc_at [] = refl
    append_assoc_at (z ∷ zs) = ap (λ l. z ∷ l) (append_assoc_at zs)

pub grows_put : (old new : Constants) (name : List ℕ) (d : DeclaredType) → PutsBehind old new name d → GrowsBehind old new
grows_put old new name d (k, n, is, e) = (k ∷ [], e)

-- what is known stays
pub tree_later : (b now : Nodes) (old new : Constants) (name : List ℕ) (T : Ty) → Extends b now → GrowsBehind old new → HasTree b old name T → HasTree now new name T
tree_later b now old new name T x g (standard_one n e t) = standard_one n e t
tree_later b now old new name T x (more, g) (known_one k has is d declared l t n) =
    let m = x.more_types in
    known_one k (subst (λ l. Contains l k) (sym g) (Contains-append_left old.constants.items more k has)) is d declared (omega (arith, l, m)) (x.same_types d.scheme.0 l ∙ t) n

pub counted_later : (b now : Nodes) (c : Constants) → Extends b now → AreCounted b c → AreCounted now c
counted_later b now c x all k has d is =
    let h = all k has d is in
    let l = h.0 in
    let m = x.more_types in
    (omega (arith, l, m), h.1 ∙ ap (λ T. length (first_variables T)) (sym (x.same_types d.scheme.0 h.0)))

-- one more
pub counted_put : (b : Nodes) (old new : Constants) (name : List ℕ) (d : DeclaredType) → PutsBehind old new name d → (d.scheme.0 < length b.types) ×
    (d.type_vars ≡ length (first_variables (type_tree b d.scheme.0))) → AreCounted b old → AreCounted b new
counted_put b old new name d (k, n, is, e) h all j has c there = by (Contains-append_cases old.constants.items (k ∷ []) j (subst (λ l. Contains l j) e has))
  where
    by : Contains old.constants.items j ⊎ Contains (k ∷ []) j → (c.scheme.0 < length b.types) × (c.type_vars ≡ length (first_variables (type_tree b c.scheme.0)))
    by (inl x) = all j x c there
    by (inr x) =
        let same : d ≡ c = same_Some d c (sym is ∙ ap (λ k. k.declared) (Contains_single k j x) ∙ there) in
        subst (λ c. (c.scheme.0 < length b.types) × (c.type_vars ≡ length (first_variables (type_tree b c.scheme.0)))) same h

pub tree_put : (b : Nodes) (old new : Constants) (name : List ℕ) (d : DeclaredType) → PutsBehind old new name d → d.scheme.0 < length b.types →
    d.type_vars ≡ length (first_variables (type_tree b d.scheme.0)) → HasTree b new name (type_tree b d.scheme.0)
tree_put b old new name d (k, n, is, e) l count = known_one k (subst (λ l. Contains l k) (sym e) (Contains-append_right old.constants.items (k ∷ []) k (Contains_head k []))) n d is l refl count

-- what is known of a name
pub tree_standard : (b : Nodes) (c : Constants) (name : List ℕ) (n : ℕ) (t : TypeId) → Some n ≡ found name standard_constants → IsTree b
    (λ t. t ≡ standard_tree n) t → HasTree b c name (type_tree b t.0)
tree_standard b c name n t e h = standard_one n (sym e) h.1

pub named_at : (name : List ℕ) (ks : List Constant) (i : ℕ) (k : Constant) → first_place name (map (λ k. k.name.items) ks) ≡ Some i → k ≡ get_or ks i k → Contains ks k × (k.name.items ≡ name)
named_at name [] i k e at = absurd (cc)
named_at name (x ∷ xs) i k e at = by (bytes_eq name x.name.items) refl (first_place name (map (λ k. k.name.items) xs)) refl (λ j f g. named_at name xs j k f g) e at
  where
    by : (t : Bool) → bytes_eq name x.name.items ≡ t → (o : Option ℕ) → first_place name (map (λ k. k.name.items) xs) ≡ o →
        ((j : ℕ) → first_place name (map (λ k. k.name.items) xs) ≡ Some j → k ≡ get_or xs j k → Contains xs k × (k.name.items ≡ name)) →
        (if t then Some 0 else option_map (λ i. suc i) o) ≡ Some i → k ≡ get_or (x ∷ xs) i k → Contains (x ∷ xs) k × (k.name.items ≡ name)
    by true s o f h e at =
        let z : 0 ≡ i = same_Some 0 i e in
        let is : k ≡ x = at ∙ ap (λ j. get_or (x ∷ xs) j k) (sym z) in
        (subst (Contains (x ∷ xs)) (sym is) (Contains_head x xs), ap (λ k. k.name.items) is ∙ sym ((bytes_eq-Decides name x.name.items).0 s))
    by false s None f h e at = absurd (cc)
    by false s (Some j) f h e at =
        let z : suc j ≡ i = same_Some (suc j) i e in
        let m = h j f (at ∙ ap (λ j. get_or (x ∷ xs) j k) (sym z)) in
        (Contains_tail x k xs m.0, m.1)

pub tree_declared : (b now : Nodes) (c : Constants) (name : List ℕ) (words : List (List ℕ)) (i : ℕ) (k : Constant) (d : DeclaredType) → HasWords c
    words → Some i ≡ place_of c.places name → k ≡ get_or c.constants.items i k → k.declared ≡ Some d → AreCounted b c → Extends b now → HasTree now c
    name (type_tree now d.scheme.0)
tree_declared b now c name words i k d h e at is all x =
    let m = named_at name c.constants.items i k (sym (e ∙ h.places name)) at in
    let h = all k m.0 d is in
    let l = h.0 in
    let y = x.more_types in
    known_one k m.0 m.1 d is (omega (arith, l, y)) refl (h.1 ∙ ap (λ T. length (first_variables T)) (sym (x.same_types d.scheme.0 h.0)))

-- an entry that is seen, and all of them
pub entry_new : (b : Nodes) (old new : Constants) (made : List TypeId) (e : ConstantEntry) (name : List ℕ) (s : TypeId) → slice_get made e.scheme.0 ≡
    Some s → name ≡ e.name.items → PutsBehind old new name (record { type_vars = e.type_vars; scheme = s }) →
    IsCountedEntry b made e → AreCounted b old → AreCounted b new × IsSeenEntry b new made e
entry_new b old new made e name s at is put counted all =
    let h = counted s at in (
      counted_put b old new name (record { type_vars = e.type_vars; scheme = s }) put h all,
      λ t u. subst (λ t. HasTree b new e.name.items (type_tree b t.0)) (same_Some s t (sym at ∙ u))
          (subst (λ n. HasTree b new n (type_tree b s.0)) is (tree_put b old new name (record { type_vars = e.type_vars; scheme = s }) put h.0 h.1)),
    )

pub entry_known : (b : Nodes) (c : Constants) (made : List TypeId) (e : ConstantEntry) (name : List ℕ) (s t : TypeId) → slice_get made e.scheme.0 ≡
    Some s → name ≡ e.name.items → t ≡ s → HasTree b c name (type_tree b t.0) → IsSeenEntry b c made e
entry_known b c made e name s t at is same h u v =
    subst (λ t. HasTree b c e.name.items (type_tree b t.0)) (same ∙ same_Some s u (sym at ∙ v)) (subst (λ n. HasTree b c n (type_tree b t.0)) is h)

-- entries, while more is known
pub counted_entry_later : (b now : Nodes) (made : List TypeId) (e : ConstantEntry) → Extends b now → IsCountedEntry b made e → IsCountedEntry now made e
counted_entry_later b now made e x h t at =
    let k = h t at in
    let l = k.0 in
    let m = x.more_types in
    (omega (arith, l, m), k.1 ∙ ap (λ T. length (first_variables T)) (sym (x.same_types t.0 k.0)))

pub seen_entry_later : (b now : Nodes) (old new : Constants) (made : List TypeId) (e : ConstantEntry) → Extends b now → GrowsBehind old new →
    IsCountedEntry b made e → IsSeenEntry b old made e → IsSeenEntry now new made e
seen_entry_later b now old new made e x g counted h t at = subst (HasTree now new e.name.items) (sym (x.same_types t.0 (counted t at).0))
    (tree_later b now old new e.name.items (type_tree b t.0) x g (h t at))

seen_list_later : (b now : Nodes) (old new : Constants) (made : List TypeId) (es : List ConstantEntry) → Extends b now → GrowsBehind old new → All
    (IsCountedEntry b made) es → All (IsSeenEntry b old made) es → All (IsSeenEntry now new made) es
seen_list_later b now old new made es x g counted h = λ k e l. seen_entry_later b now old new made (get_or es k e) x g (counted k e l) (h k e l)

-- the next of new ones is new
pub new_at : (words : List (List ℕ)) (es : List ConstantEntry) (i : ℕ) (e : ConstantEntry) → i < length es → e ≡ get_or es i e → AreNew words es →
    is_met_word e.name.items (words ++ map (λ e. e.name.items) (take i es)) ≡ false
new_at words [] i e h at n = absurd (omega (arith, h))
new_at words (x ∷ xs) zero e h at (n, more) = ap (λ e. is_met_word e.name.items (words ++ [])) at ∙ ap (is_met_word x.name.items) (append-nil words) ∙ n
new_at words (x ∷ xs) (suc i) e h at (n, more) =
    ap (is_met_word e.name.items) (sym (append_assoc words (x.name.items ∷ []) (map (λ e. e.name.items) (take i xs)))) ∙ new_at (words ++ x.name.items ∷ []) xs i e (omega (arith, h)) at more

-- one more entry was seen
pub one_seen : (first b now : Nodes) (old new : Constants) (made : List TypeId) (es : List ConstantEntry) (i : ℕ) (e : ConstantEntry)
    (all all_then s : Sight) (words : List (List ℕ)) → i < length es → e ≡ get_or es i e → Extends first b → Extends b now → GrowsBehind old new →
    (all_then ≡ Alike → (all ≡ Alike) × (s ≡ Alike)) → All (IsCountedEntry first made) es →
    ((all ≡ Alike) ⊎ AreNew words es → All (IsSeenEntry b old made) (take i es)) →
    ((s ≡ Alike) ⊎ (is_met_word e.name.items (words ++ map (λ e. e.name.items) (take i es)) ≡ false) → IsSeenEntry now new made e) →
    (all_then ≡ Alike) ⊎ AreNew words es → All (IsSeenEntry now new made) (take (i + 1) es)
one_seen first b now old new made es i e all all_then s words h at x y g both counted before this premise =
    subst (All (IsSeenEntry now new made)) (sym (take_more es i e h ∙ ap (λ e. take i es ++ e ∷ []) (sym at)))
    (All-push (IsSeenEntry now new made) (take i es) e (seen_list_later b now old new made (take i es) y g
    (λ k d l. counted_entry_later first b made (get_or (take i es) k d) x (All-take (IsCountedEntry first made) i es counted k d l))
    (before (left premise))) (this (right premise)))
  where
    left : (all_then ≡ Alike) ⊎ AreNew words es → (all ≡ Alike) ⊎ AreNew words es
    left (inl q) = inl (both q).0
    left (inr n) = inr n

    right : (all_then ≡ Alike) ⊎ AreNew words es → (s ≡ Alike) ⊎ (is_met_word e.name.items (words ++ map (λ e. e.name.items) (take i es)) ≡ false)
    right (inl q) = inl (both q).1
    right (inr n) = inr (new_at words es i e h at n)

-- a text, sentence by sentence
pub making_same : (m : Making) → Grows m m
making_same m = record { bank = extends_same m.bodies.types.bank; constants = grows_same m.constants }

pub making_then : (a b c : Making) → Grows a b → Grows b c → Grows a c
making_then a b c x y = record {
  bank = extends-trans a.bodies.types.bank b.bodies.types.bank c.bodies.types.bank x.bank y.bank;
  constants = grows_then a.constants b.constants c.constants x.constants y.constants;
}

pub making_parts : (a b : Making) → b.bodies ≡ a.bodies → b.constants ≡ a.constants → Grows a b
making_parts a b e f = record {
  bank = subst (λ x. Extends a.bodies.types.bank x.types.bank) (sym e) (extends_same a.bodies.types.bank);
  constants = subst (GrowsBehind a.constants) (sym f) (grows_same a.constants);
}

pub counted_parts : (a b : Making) → b.bodies ≡ a.bodies → b.constants ≡ a.constants → AreCounted a.bodies.types.bank a.constants → AreCounted b.bodies.types.bank b.constants
counted_parts a b e f all = subst (λ x. AreCounted x.types.bank b.constants) (sym e) (subst (AreCounted a.bodies.types.bank) (sym f) all)

pub counted_none : (b : Nodes) (c : Constants) → c.constants.items ≡ [] → AreCounted b c
counted_none b c e k has d is = none (subst (λ l. Contains l k) e has)
  where
    none : Contains [] k → (d.scheme.0 < length b.types) × (d.type_vars ≡ length (first_variables (type_tree b d.scheme.0)))
    none (i, l, at) = absurd (omega (arith, l))

-- types of one number are one
abbrev type_of : ℕ → TypeId
type_of n = record { 0 = n }

pub same_type : (a b : TypeId) → a.0 ≡ b.0 → a ≡ b
same_type a b e = ap type_of e

-- a constant of a signature: a new one, one whose type has a fault, and one with a type
pub seen_new : {E : Type 0} (r : Result Sight E) (b now : Nodes) (old new : Constants) (made : List TypeId) (e : ConstantEntry) (name : List ℕ)
    (s : TypeId) → slice_get made e.scheme.0 ≡ Some s → name ≡ e.name.items → Extends b now → OnOk r
    (PutsBehind old new name (record { type_vars = e.type_vars; scheme = s })) →
    IfOk r (λ sight. (words : List (List ℕ)) → HasWords old words → AreCounted b old → IsCountedEntry b made e → AreCounted now new ×
    ((sight ≡ Alike) ⊎ (is_met_word e.name.items words ≡ false) → IsSeenEntry now new made e))
seen_new (Ok sight) b now old new made e name s at is x put =
    λ words h all counted.
    let f = entry_new now old new made e name s at is put (counted_entry_later b now made e x counted) (counted_later b now old x all) in
    (f.0, λ premise. f.1)
seen_new (Err m) b now old new made e name s at is x put = tt

never_new : (t : Bool) → t ≡ true → t ≡ false → ⊥
never_new true e f = absurd (true≢false f)
never_new false e f = absurd (true≢false (sym e))

pub seen_never : (b : Nodes) (c : Constants) (made : List TypeId) (e : ConstantEntry) (words : List (List ℕ)) {name : List ℕ} {met : Bool}
    {sight : Sight} → is_met_word name words ≡ met → name ≡ e.name.items → met ≡ true → (sight ≡ Alike → ⊥) →
    (sight ≡ Alike) ⊎ (is_met_word e.name.items words ≡ false) → IsSeenEntry b c made e
seen_never b c made e words m is met never (inl q) = absurd (never q)
seen_never b c made e words {name} m is met never (inr n) = absurd (never_new (is_met_word name words) (m ∙ met) (ap (λ w. is_met_word w words) is ∙ n))

pub seen_known : (b : Nodes) (c : Constants) (made : List TypeId) (e : ConstantEntry) (words : List (List ℕ)) {name : List ℕ} {met : Bool}
    {sight : Sight} → is_met_word name words ≡ met → name ≡ e.name.items → met ≡ true → (s t : TypeId) → slice_get made e.scheme.0 ≡ Some s → HasTree
    b c name (type_tree b t.0) →
    (sight ≡ Alike → t ≡ s) → (sight ≡ Alike) ⊎ (is_met_word e.name.items words ≡ false) → IsSeenEntry b c made e
seen_known b c made e words {name} m is met s t at tree same (inl q) = entry_known b c made e name s t at is (same q) tree
seen_known b c made e words {name} m is met s t at tree same (inr n) = absurd (never_new (is_met_word name words) (m ∙ met) (ap (λ w. is_met_word w words) is ∙ n))
