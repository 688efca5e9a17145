-- The work on types, step by step.
use Rattle.std.proofs.Common.{◌≡◌, ℕ, zero, suc, ◌+◌, ◌<◌, ◌≤◌, List, [], ◌∷◌, ◌++◌, length, map, reverse, take, drop, refl, sym, ap, ◌∙◌, subst, arith, length-append, length-drop, take_all, ◌-◌, append_assoc, append-nil}
use Rattle.std.specs.Prelude.{All}
use Rattle.std.proofs.lemmas.List.{reverse-append, map-append, length-map, same_from_push}
use Rattle.std.proofs.lemmas.List.Elements.{All-push, All-weaker, All-cons, All-take}
use mathlib.Core.List.{map-map}
use Rattle.lp_lemmas.proofs.Lists.{map_take}
use Rattle.lp_calculus.specs.Types.{Ty, var, con, arrow, tys}
use Rattle.lp_store.specs.declared.cell.CellId.{CellId}
use Rattle.lp_store.specs.declared.cell.Span.{Span}
use Rattle.lp_store.specs.declared.cell.Cell.TheVariants.{TypeVar, TypeCon, TypeArrow, Ref}
use Rattle.lp_store.specs.Contents.{Contents, cell_at, span}
use Rattle.lp_store.specs.Reading.{ReadTypes, no_types, more_types, first_type, rest_types}
use Rattle.lp_store.proofs.Changes.{type_parts_read}
use Rattle.lp_term.specs.declared.node.TypeId.{TypeId}
use Rattle.lp_term.specs.Nodes.{Nodes, type_tree, Extends}
use Rattle.lp_susp.specs.declared.type_reading.TypeTask.{TypeTask}
use Rattle.lp_susp.specs.declared.type_reading.TypeTask.TheVariants.{Read, MakeCon, MakeArrow}
use Rattle.lp_susp.specs.TypeWork.{Act, Ran, IsThere, reads_of}

-- work behind work is done before it
pub ran_split : (s : Contents) (xs ys : List TypeTask) (old new : List Ty) → Ran s (xs ++ ys) old new → (mid : List Ty) × Ran s ys old mid × Ran s xs mid new
ran_split s [] ys old new r = (new, r, refl)
ran_split s (x ∷ xs) ys old new r = let k = ran_split s xs ys old r.0 r.1 in (k.0, k.1, (r.0, k.2, r.2))

pub ran_join : (s : Contents) (xs ys : List TypeTask) (old mid new : List Ty) → Ran s ys old mid → Ran s xs mid new → Ran s (xs ++ ys) old new
ran_join s [] ys old mid new r q = subst (Ran s ys old) q r
ran_join s (x ∷ xs) ys old mid new r q = (q.0, ran_join s xs ys old mid q.0 r q.1, q.2)

one : (s : Contents) (t : TypeTask) (old new : List Ty) → Act s t old new → Ran s (t ∷ []) old new
one s t old new a = (old, refl, a)

pub single : (s : Contents) (t : TypeTask) (old new : List Ty) → Ran s (t ∷ []) old new → Act s t old new
single s t old new r = subst (λ l. Act s t l new) (sym r.1) r.2

-- one task gives way to others that do the same
pub replaced : (s : Contents) (ws ts : List TypeTask) (t : TypeTask) (old new : List Ty) → ((mid : List Ty) → Act s t old mid → Ran s ts old mid) → Ran s (ws ++ t ∷ []) old new → Ran s (ws ++ ts) old new
replaced s ws ts t old new f r =
    let k = ran_split s ws (t ∷ []) old new r in
    ran_join s ws ts old k.0 new (f k.0 (single s t old k.0 k.1)) k.2

-- and where it is done at once
pub done_task : (s : Contents) (ws : List TypeTask) (t : TypeTask) (old mid new : List Ty) → ((m : List Ty) → Act s t old m → m ≡ mid) → Ran s (ws ++ t ∷ []) old new → Ran s ws mid new
done_task s ws t old mid new f r =
    let k = ran_split s ws (t ∷ []) old new r in
    subst (λ l. Ran s ws l new) (f k.0 (single s t old k.0 k.1)) k.2

-- cells that read as these types
pub reads_run : (s : Contents) (ids : List CellId) (Ts : List Ty) → ReadTypes s (map (λ t. t.0) ids) Ts → (old : List Ty) → Ran s (reverse (reads_of ids)) old (old ++ Ts)
reads_run s [] Ts r old = go r
  where
    go : {Us : List Ty} → ReadTypes s [] Us → old ≡ old ++ Us
    go no_types = sym (append-nil old)
reads_run s (i ∷ ids) Ts r old = go r (λ Us q o. reads_run s ids Us q o)
  where
    go : {Us : List Ty} → ReadTypes s (i.0 ∷ map (λ t. t.0) ids) Us → ((Vs : List Ty) → ReadTypes s (map (λ t. t.0) ids) Vs → (o : List Ty) → Ran s (reverse (reads_of ids)) o (o ++ Vs)) → Ran s (reverse (reads_of (i ∷ ids))) old (old ++ Us)
    go (more_types {T = T} {Ts = Vs} o p) f =
        subst (λ l. Ran s l old (old ++ T ∷ Vs)) (sym (reverse-append (Read i ∷ []) (reads_of ids)))
        (subst (Ran s (reverse (reads_of ids) ++ Read i ∷ []) old) (append_assoc old (T ∷ []) Vs)
        (ran_join s (reverse (reads_of ids)) (Read i ∷ []) old (old ++ T ∷ []) ((old ++ T ∷ []) ++ Vs) (one s (Read i) old (old ++ T ∷ []) (T, o, refl)) (f Vs p (old ++ T ∷ []))))

-- a cell that refers to another is read as that one
pub ref_task : (s : Contents) (c to : CellId) → cell_at s c.0 ≡ Ref to → (old mid : List Ty) → Act s (Read c) old mid → Ran s (Read to ∷ []) old mid
ref_task s c to e old mid a = made (type_parts_read s c.0 (Ref to) e a.1)
  where
    made : (Ts : List Ty) × ReadTypes s (to.0 ∷ []) Ts × (a.0 ≡ first_type Ts) × Unit {0} → Ran s (Read to ∷ []) old mid
    made (Ts, more_types {T = T} r no_types, h, u) = one s (Read to) old mid (T, r, a.2 ∙ ap (λ y. old ++ y ∷ []) h)

pub var_task : (s : Contents) (c : CellId) → cell_at s c.0 ≡ TypeVar → (old mid : List Ty) → Act s (Read c) old mid → mid ≡ old ++ var c.0 ∷ []
var_task s c e old mid a = a.2 ∙ ap (λ y. old ++ y ∷ []) (type_parts_read s c.0 TypeVar e a.1).2

types_length : {s : Contents} {is : List ℕ} {Ts : List Ty} → ReadTypes s is Ts → length Ts ≡ length is
types_length no_types = refl
types_length (more_types r p) = ap suc (types_length p)

pub con_task : (s : Contents) (c : CellId) (name : ℕ) (l : Span) (n : ℕ) (cells : List CellId) → cell_at s c.0 ≡ TypeCon name l → cells ≡ span s.items l.from l.count → n ≡ length cells → (old mid : List Ty) → Act s (Read c) old mid →
    Ran s (MakeCon name n ∷ reverse (reads_of cells)) old mid
con_task s c name l n cells e q m old mid a =
    let k = type_parts_read s c.0 (TypeCon name l) e a.1 in
    let p : ReadTypes s (map (λ t. t.0) cells) k.0 = subst (λ y. ReadTypes s (map (λ t. t.0) y) k.0) (sym q) k.1 in
    (old ++ k.0, reads_run s cells k.0 p old, (old, k.0, refl, types_length p ∙ length-map cells (λ t. t.0) ∙ sym m, a.2 ∙ ap (λ y. old ++ y ∷ []) k.2))

pub arrow_task : (s : Contents) (c f t : CellId) → cell_at s c.0 ≡ TypeArrow f t → (old mid : List Ty) → Act s (Read c) old mid → Ran s (MakeArrow ∷ Read t ∷ Read f ∷ []) old mid
arrow_task s c f t e old mid a = made (type_parts_read s c.0 (TypeArrow f t) e a.1)
  where
    made : (Ts : List Ty) × ReadTypes s (f.0 ∷ t.0 ∷ []) Ts × (a.0 ≡ arrow (first_type Ts) (first_type (rest_types Ts))) × Unit {0} → Ran s (MakeArrow ∷ Read t ∷ Read f ∷ []) old mid
    made (Ts, more_types {T = A} r (more_types {T = B} o no_types), h, u) = (
      (old ++ A ∷ []) ++ B ∷ [],
      (old ++ A ∷ [], one s (Read f) old (old ++ A ∷ []) (A, r, refl), (B, o, refl)),
      (old, A, B, append_assoc old (A ∷ []) (B ∷ []), a.2 ∙ ap (λ y. old ++ y ∷ []) h),
    )

pub there_all : (s : Contents) (cells : List CellId) → All (λ t. t.0 < length s.cells) cells → All (IsThere s) (reverse (reads_of cells))
there_all s [] a = λ k d h. absurd (omega arith)
there_all s (c ∷ cs) a =
    subst (λ l. All (IsThere s) l) (sym (reverse-append (Read c ∷ []) (reads_of cs)))
    (All-push (IsThere s) (reverse (reads_of cs)) (Read c) (there_all s cs (λ k d h. a (suc k) d (omega arith))) (a 0 c (omega arith)))

-- lists of types in the bank
pub trees_kept : (b d : Nodes) → Extends b d → (out : List TypeId) → All (λ t. t.0 < length b.types) out → map (λ t. type_tree d t.0) out ≡ map (λ t. type_tree b t.0) out
trees_kept b d e [] a = refl
trees_kept b d e (t ∷ ts) a =
    let p = e.same_types t.0 (a 0 t (omega arith)) in
    let q = trees_kept b d e ts (λ k c h. a (suc k) c (omega arith)) in
    (λ i. p i ∷ q i)

pub trees_push : (b d : Nodes) → Extends b d → (out new : List TypeId) (id : TypeId) (T : Ty) → All (λ t. t.0 < length b.types) out → new ≡ out ++ id ∷ [] → type_tree d id.0 ≡ T → map (λ t. type_tree d t.0) new ≡ map (λ t. type_tree b t.0) out ++ T ∷ []
trees_push b d e out new id T a q h =
    ap (map (λ t. type_tree d t.0)) q ∙ map-append (λ t. type_tree d t.0) out (id ∷ []) ∙ (λ i. trees_kept b d e out a i ++ h i ∷ [])

pub outs_push : (b d : Nodes) → Extends b d → (out new : List TypeId) (id : TypeId) → All (λ t. t.0 < length b.types) out → id.0 < length d.types → new ≡ out ++ id ∷ [] → All (λ t. t.0 < length d.types) new
outs_push b d e out new id a h q =
    subst (λ l. All (λ t. t.0 < length d.types) l) (sym q)
    (All-push (λ t. t.0 < length d.types) out id (All-weaker (λ t. t.0 < length b.types) (λ t. t.0 < length d.types) (λ t g. omega (arith, g, e.more_types)) out a) h)

-- the front and the back of a list whose back has so many
pub front_back : {A : Type 0} (xs front back : List A) (from count : ℕ) → xs ≡ front ++ back → length back ≡ count → from + count ≡ length xs → (take from xs ≡ front) × (drop from xs ≡ back)
front_back xs front back from count e h l =
    let n : from ≡ length front = omega (arith, ap length e, length-append front back) in
    (ap (take from) e ∙ ap (λ k. take k (front ++ back)) n ∙ take_front front back, ap (drop from) e ∙ ap (λ k. drop k (front ++ back)) n ∙ drop_front front back)
  where
    take_front : {A : Type 0} (xs ys : List A) → take (length xs) (xs ++ ys) ≡ xs
    take_front [] ys = refl
    take_front (x ∷ xs) ys = ap (λ l. x ∷ l) (take_front xs ys)

    drop_front : {A : Type 0} (xs ys : List A) → drop (length xs) (xs ++ ys) ≡ ys
    drop_front [] ys = refl
    drop_front (x ∷ xs) ys = drop_front xs ys

map-drop : {A B : Type 0} (f : A → B) (n : ℕ) (xs : List A) → map f (drop n xs) ≡ drop n (map f xs)
map-drop f zero xs = refl
map-drop f (suc n) [] = refl
map-drop f (suc n) (x ∷ xs) = map-drop f n xs

-- a constructor on the newest types
pub con_made : (b d : Nodes) → Extends b d → (old cut new args : List TypeId) (id : TypeId) (name from count : ℕ) (front Ts : List Ty) → All (λ t. t.0 < length b.types) old → from + count ≡ length old → args ≡ drop from old → cut ≡ take from old → new ≡ cut ++ id ∷ [] →
    type_tree d id.0 ≡ con name (tys (map (type_tree b) (map (λ t. t.0) args))) → map (λ t. type_tree b t.0) old ≡ front ++ Ts → length Ts ≡ count → map (λ t. type_tree d t.0) new ≡ front ++ con name (tys Ts) ∷ []
con_made b d e old cut new args id name from count front Ts a l p q r h m n =
    let f : TypeId → Ty = λ t. type_tree b t.0 in
    let k = front_back (map f old) front Ts from count m n (l ∙ sym (length-map old f)) in
    let g : map (type_tree b) (map (λ t. t.0) args) ≡ Ts = map-map (type_tree b) (λ t. t.0) args ∙ ap (map f) p ∙ map-drop f from old ∙ k.1 in
    let w : map f cut ≡ front = ap (map f) q ∙ map_take f from old ∙ k.0 in
    let ac : All (λ t. t.0 < length b.types) cut = subst (λ y. All (λ t. t.0 < length b.types) y) (sym q) (All-take (λ t. t.0 < length b.types) from old a) in
    trees_push b d e cut new id (con name (tys Ts)) ac r (h ∙ ap (λ y. con name (tys y)) g) ∙ ap (λ y. y ++ con name (tys Ts) ∷ []) w

pub numbers_all : (n : ℕ) (xs : List TypeId) → All (λ t. t.0 < n) xs → All (λ t. t < n) (map (λ t. t.0) xs)
numbers_all n [] a = λ k d h. absurd (omega arith)
numbers_all n (x ∷ xs) a = All-cons (λ t. t < n) x.0 (map (λ t. t.0) xs) (a 0 x (omega arith)) (numbers_all n xs (λ k d h. a (suc k) d (omega arith)))

pub rest_of : {A : Type 0} (xs old : List A) (from : ℕ) → xs ≡ old → take (length xs - from) (drop from xs) ≡ drop from old
rest_of xs old from e = (λ i. take (length (e i) - from) (drop from (e i))) ∙ take_all (length old - from) (drop from old) (omega (arith, length-drop from old))

pub constant_trees : (b : Nodes) (xs ids : List TypeId) (Ts : List Ty) → xs ≡ ids → map (λ t. type_tree b t.0) ids ≡ Ts → map (type_tree b) (map (λ t. t.0) xs) ≡ Ts
constant_trees b xs ids Ts e h = map-map (type_tree b) (λ t. t.0) xs ∙ ap (map (λ t. type_tree b t.0)) e ∙ h

-- the function type of the two newest types
pub arrow_made : (b d : Nodes) → Extends b d → (old mid cut new : List TypeId) (from to id : TypeId) (front : List Ty) (A B : Ty) → All (λ t. t.0 < length b.types) old → old ≡ mid ++ to ∷ [] → mid ≡ cut ++ from ∷ [] → new ≡ cut ++ id ∷ [] →
    type_tree d id.0 ≡ arrow (type_tree b from.0) (type_tree b to.0) → map (λ t. type_tree b t.0) old ≡ front ++ A ∷ B ∷ [] → map (λ t. type_tree d t.0) new ≡ front ++ arrow A B ∷ []
arrow_made b d e old mid cut new from to id front A B a p q r h m =
    let f : TypeId → Ty = λ t. type_tree b t.0 in
    let x = same_from_push (map f mid) (front ++ A ∷ []) (f to) B (sym (ap (map f) p ∙ map-append f mid (to ∷ [])) ∙ m ∙ sym (append_assoc front (A ∷ []) (B ∷ []))) in
    let y = same_from_push (map f cut) front (f from) A (sym (ap (map f) q ∙ map-append f cut (from ∷ [])) ∙ x.0) in
    let n : length cut ≤ length old = omega (arith, ap length p, ap length q, length-append mid (to ∷ []), length-append cut (from ∷ [])) in
    let c : cut ≡ take (length cut) old = sym (ap (take (length cut)) (p ∙ ap (λ l. l ++ to ∷ []) q ∙ append_assoc cut (from ∷ []) (to ∷ [])) ∙ front_take cut (from ∷ to ∷ [])) in
    let ac : All (λ t. t.0 < length b.types) cut = subst (λ l. All (λ t. t.0 < length b.types) l) (sym c) (All-take (λ t. t.0 < length b.types) (length cut) old a) in
    trees_push b d e cut new id (arrow A B) ac r (h ∙ (λ i. arrow (y.1 i) (x.1 i))) ∙ ap (λ l. l ++ arrow A B ∷ []) y.0
  where
    front_take : {C : Type 0} (xs ys : List C) → take (length xs) (xs ++ ys) ≡ xs
    front_take [] ys = refl
    front_take (x ∷ xs) ys = ap (λ l. x ∷ l) (front_take xs ys)

pub bank_same : (b : Nodes) → Extends b b
bank_same b = record { types_stay = λ i h. refl; terms_stay = λ i h. refl; more_types = omega arith; more_terms = omega arith; same_types = λ i h. refl; same_terms = λ i h. refl }

pub bank_on : (a b c : Nodes) → Extends a b → Extends b c → Extends a c
bank_on a b c p q = record {
  types_stay = λ i h. q.types_stay i (omega (arith, p.more_types)) ∙ p.types_stay i h;
  terms_stay = λ i h. q.terms_stay i (omega (arith, p.more_terms)) ∙ p.terms_stay i h;
  more_types = omega (arith, p.more_types, q.more_types);
  more_terms = omega (arith, p.more_terms, q.more_terms);
  same_types = λ i h. q.same_types i (omega (arith, p.more_types)) ∙ p.same_types i h;
  same_terms = λ i h. q.same_terms i (omega (arith, p.more_terms)) ∙ p.same_terms i h;
}
