-- What cells that are no references read as, as types, and what the definition says of two of them.
use Rattle.std.proofs.Common.{◌≡◌, ℕ, zero, suc, ◌+◌, ◌<◌, ◌≤◌, ◌⊎◌, inl, inr, List, [], ◌∷◌, ◌++◌, length, map, reverse, refl, sym, ap, ◌∙◌, subst, arith, Option, Some, None, Bool, true, false, nat_eq, if◌then◌else◌, append-nil}
use Rattle.std.specs.Prelude.{nat_lt}
use Rattle.std.proofs.lemmas.Bool.Decides.{nat_tests}
use Rattle.lp_lemmas.proofs.Lists.{reverse_pushed}
use Rattle.lp_calculus.specs.Types.{Ty, Tys, var, param, con, arrow, tys, no_types, types}
use Rattle.lp_store.specs.declared.cell.Cell.{Cell}
use Rattle.lp_store.specs.declared.cell.Cell.TheVariants.{TypeVar, TypeCon, TypeArrow, Ref, Const, Int, Text, Eigen, Logic, Index, Abs, App, Susp}
use Rattle.lp_store.specs.declared.cell.CellId.{CellId}
use Rattle.lp_store.specs.declared.cell.Span.{Span}
use Rattle.lp_store.specs.Contents.{Contents, cell_at, span}
use Rattle.lp_store.specs.Reading.{ReadsType, ReadTypes, no_types as none_read, more_types, first_type, rest_types, type_top, MayBeType}
use Rattle.lp_store.proofs.Changes.{type_parts_read}
use Rattle.lp_model.specs.Types.{TypePair, TypeRuled, TypeVerdict, differ, parts, parts_of, of_parts, plainly, bind_type, type_rule, same_top, zipped}
use Rattle.lp_unify.specs.declared.types.Choice.{Choice}
use Rattle.lp_unify.specs.Heads.{type_cells, types_at, HaveAsManyTypes, zipped_cells}
use Rattle.lp_unify.specs.TypeEquations.{ReadsPair, ReadPairs}
use Rattle.lp_unify.specs.TypeTurns.{IsResolved, IsVariable, IsToBecome, IsChosen, IsSplit, ReadStack}

pub var_read : (s : Contents) (i : ℕ) (T : Ty) → cell_at s i ≡ TypeVar → ReadsType s i T → T ≡ var i
var_read s i T e r = (type_parts_read s i TypeVar e r).2

pub con_read : (s : Contents) (i c : ℕ) (l : Span) (T : Ty) → cell_at s i ≡ TypeCon c l → ReadsType s i T → (Ts : List Ty) × ReadStack s (span s.items l.from l.count) Ts × (T ≡ con c (tys Ts))
con_read s i c l T e r = let k = type_parts_read s i (TypeCon c l) e r in (k.0, k.1, k.2)

two_read : {s : Contents} {i j : ℕ} {Ts : List Ty} → ReadTypes s (i ∷ j ∷ []) Ts → ReadsType s i (first_type Ts) × ReadsType s j (first_type (rest_types Ts))
two_read (more_types r (more_types q none_read)) = (r, q)

pub arrow_read : (s : Contents) (i : ℕ) (a b : CellId) (T : Ty) → cell_at s i ≡ TypeArrow a b → ReadsType s i T → (A : Ty) × (B : Ty) × ReadsType s a.0 A × ReadsType s b.0 B × (T ≡ arrow A B)
arrow_read s i a b T e r =
    let k = type_parts_read s i (TypeArrow a b) e r in
    let p = two_read k.1 in
    (first_type k.0, first_type (rest_types k.0), p.0, p.1, k.2)

-- a cell that reads as a type variable is one
abbrev IsMade : Ty → Type 0
IsMade (var y) = ⊥
IsMade _ = Unit {0}

abbrev IsVarAt : ℕ → Cell → Ty → Type 0
IsVarAt i c (var y) = (c ≡ TypeVar) × (y ≡ i)
IsVarAt i c _ = Unit {0}

var_at : (i : ℕ) (c : Cell) (Ts : List Ty) (T : Ty) → IsResolved c → MayBeType c → T ≡ type_top i c Ts → IsVarAt i c T
var_at i TypeVar Ts T r m e = subst (IsVarAt i TypeVar) (sym e) (refl, refl)
var_at i (TypeCon n l) Ts T r m e = subst (IsVarAt i (TypeCon n l)) (sym e) tt
var_at i (TypeArrow a b) Ts T r m e = subst (IsVarAt i (TypeArrow a b)) (sym e) tt
var_at i (Ref to) Ts T r m e = absurd r
var_at i (Const c l) Ts T r m e = absurd m
var_at i (Int z) Ts T r m e = absurd m
var_at i (Text l) Ts T r m e = absurd m
var_at i (Eigen k) Ts T r m e = absurd m
var_at i (Logic l) Ts T r m e = absurd m
var_at i (Index k) Ts T r m e = absurd m
var_at i (Abs b) Ts T r m e = absurd m
var_at i (App f l) Ts T r m e = absurd m
var_at i (Susp b ol nl q) Ts T r m e = absurd m

var_cell : (s : Contents) (i : ℕ) (T : Ty) → IsResolved (cell_at s i) → ReadsType s i T → IsVarAt i (cell_at s i) T
var_cell s i T r t = let k = type_parts_read s i (cell_at s i) refl t in var_at i (cell_at s i) k.0 T r k.3 k.2

made : (i : ℕ) (c : Cell) (T : Ty) → IsVarAt i c T → (c ≡ TypeVar → ⊥) → IsMade T
made i c (var y) h f = f h.0
made i c (param k) h f = tt
made i c (con k ts) h f = tt
made i c (arrow a b) h f = tt

pub made_read : (s : Contents) (c : CellId) (T : Ty) → IsResolved (cell_at s c.0) → (IsVariable s c → ⊥) → ReadsType s c.0 T → IsMade T
made_read s c T r f t = made c.0 (cell_at s c.0) T (var_cell s c.0 T r t) f

-- a variable and what is none, or an older one
abbrev IsOlder : ℕ → Ty → Type 0
IsOlder x (var y) = y < x
IsOlder x _ = Unit {0}

older : (x i : ℕ) (c : Cell) (T : Ty) → IsVarAt i c T → (c ≡ TypeVar → i < x) → IsOlder x T
older x i c (var y) h f = subst (λ z. z < x) (sym h.1) (f h.0)
older x i c (param k) h f = tt
older x i c (con k ts) h f = tt
older x i c (arrow a b) h f = tt

rule_first : (x : ℕ) (T : Ty) → IsOlder x T → type_rule (var x) T ≡ bind_type x T
rule_first x (var y) h =
    let a : nat_eq x y ≡ false = grind (arith, nat_tests) in
    let b : nat_lt x y ≡ false = grind (arith, nat_tests) in
    ap (λ z. if z then plainly (parts []) else (if nat_lt x y then bind_type y (var x) else bind_type x (var y))) a ∙ ap (λ z. if z then bind_type y (var x) else bind_type x (var y)) b
rule_first x (param k) h = refl
rule_first x (con c ts) h = refl
rule_first x (arrow a b) h = refl

rule_second : (x : ℕ) (T : Ty) → IsOlder x T → type_rule T (var x) ≡ bind_type x T
rule_second x (var y) h =
    let a : nat_eq y x ≡ false = grind (arith, nat_tests) in
    let b : nat_lt y x ≡ true = grind (arith, nat_tests) in
    ap (λ z. if z then plainly (parts []) else (if nat_lt y x then bind_type x (var y) else bind_type y (var x))) a ∙ ap (λ z. if z then bind_type x (var y) else bind_type y (var x)) b
rule_second x (param k) h = refl
rule_second x (con c ts) h = refl
rule_second x (arrow a b) h = refl

top_first : (x : ℕ) (T : Ty) → IsOlder x T → same_top (var x) T ≡ None
top_first x (var y) h = let a : nat_eq x y ≡ false = grind (arith, nat_tests) in ap (λ z. if z then Some [] else None) a
top_first x (param k) h = refl
top_first x (con c ts) h = refl
top_first x (arrow a b) h = refl

top_second : (x : ℕ) (T : Ty) → IsOlder x T → same_top T (var x) ≡ None
top_second x (var y) h = let a : nat_eq y x ≡ false = grind (arith, nat_tests) in ap (λ z. if z then Some [] else None) a
top_second x (param k) h = refl
top_second x (con c ts) h = refl
top_second x (arrow a b) h = refl

pub rule_same : (x : ℕ) → type_rule (var x) (var x) ≡ plainly (parts [])
rule_same x = let a : nat_eq x x ≡ true = grind (arith, nat_tests) in ap (λ z. if z then plainly (parts []) else (if nat_lt x x then bind_type x (var x) else bind_type x (var x))) a

pub top_same : (x : ℕ) → same_top (var x) (var x) ≡ Some []
top_same x = let a : nat_eq x x ≡ true = grind (arith, nat_tests) in ap (λ z. if z then Some [] else None) a

-- of two types that are no variables the tops decide
pub rule_made : (A B : Ty) → IsMade A → IsMade B → type_rule A B ≡ of_parts (same_top A B)
rule_made (var x) B h k = absurd h
rule_made (param k) (var y) h g = absurd g
rule_made (con c ts) (var y) h g = absurd g
rule_made (arrow a b) (var y) h g = absurd g
rule_made (param k) (param l) h g = elim (nat_eq k l) as (λ z. (if z then plainly (parts []) else plainly differ) ≡ of_parts (if z then Some [] else None)) [ true ↦ refl | false ↦ refl ]
rule_made (param k) (con c ts) h g = refl
rule_made (param k) (arrow a b) h g = refl
rule_made (con c ts) (param k) h g = refl
rule_made (con c ts) (con d us) h g = elim (nat_eq c d) as (λ z. (if z then of_parts (parts_of ts us) else plainly differ) ≡ of_parts (if z then parts_of ts us else None)) [ true ↦ refl | false ↦ refl ]
rule_made (con c ts) (arrow a b) h g = refl
rule_made (arrow a b) (param k) h g = refl
rule_made (arrow a b) (con d us) h g = refl
rule_made (arrow a b) (arrow c d) h g = refl

-- what is chosen is what the definition does
pub dropped : (s : Contents) (one other : CellId) (A B : Ty) → IsChosen s one other Choice.Drop → ReadsType s one.0 A → ReadsType s other.0 B → (type_rule A B ≡ plainly (parts [])) × (same_top A B ≡ Some [])
dropped s one other A B h r q =
    let a = var_read s one.0 A h.0 r in
    let b = var_read s one.0 B h.0 (subst (λ i. ReadsType s i B) (sym h.1) q) in
    ((ap (λ z. type_rule z B) a ∙ ap (type_rule (var one.0)) b ∙ rule_same one.0), (ap (λ z. same_top z B) a ∙ ap (same_top (var one.0)) b ∙ top_same one.0))

older_read : (s : Contents) (x to : CellId) (T : Ty) → IsToBecome s x to → IsResolved (cell_at s to.0) → ReadsType s to.0 T → IsOlder x.0 T
older_read s x to T h r t = older x.0 to.0 (cell_at s to.0) T (var_cell s to.0 T r t) h.older

bound_first : (s : Contents) (x to : CellId) (A B : Ty) → IsToBecome s x to → IsResolved (cell_at s to.0) → ReadsType s x.0 A → ReadsType s to.0 B → (type_rule A B ≡ bind_type x.0 B) × (same_top A B ≡ None)
bound_first s x to A B h r p q =
    let a = var_read s x.0 A h.is p in
    let o = older_read s x to B h r q in
    (ap (λ z. type_rule z B) a ∙ rule_first x.0 B o, ap (λ z. same_top z B) a ∙ top_first x.0 B o)

bound_second : (s : Contents) (x to : CellId) (A B : Ty) → IsToBecome s x to → IsResolved (cell_at s to.0) → ReadsType s to.0 A → ReadsType s x.0 B → (type_rule A B ≡ bind_type x.0 A) × (same_top A B ≡ None)
bound_second s x to A B h r p q =
    let b = var_read s x.0 B h.is q in
    let o = older_read s x to A h r p in
    (ap (type_rule A) b ∙ rule_second x.0 A o, ap (same_top A) b ∙ top_second x.0 A o)

pub bound_by : (s : Contents) (one other x to : CellId) (A B : Ty) → IsChosen s one other (Choice.Bind x to) → IsResolved (cell_at s one.0) → IsResolved (cell_at s other.0) → ReadsType s one.0 A → ReadsType s other.0 B →
    (T : Ty) × ReadsType s to.0 T × (type_rule A B ≡ bind_type x.0 T) × (same_top A B ≡ None)
bound_by s one other x to A B (h, inl e) p q r t =
    let w = bound_first s x to A B h (subst (λ c. IsResolved (cell_at s c.0)) (sym e.1) q) (subst (λ c. ReadsType s c.0 A) (sym e.0) r) (subst (λ c. ReadsType s c.0 B) (sym e.1) t) in
    (B, subst (λ c. ReadsType s c.0 B) (sym e.1) t, w.0, w.1)
bound_by s one other x to A B (h, inr e) p q r t =
    let w = bound_second s x to A B h (subst (λ c. IsResolved (cell_at s c.0)) (sym e.1) p) (subst (λ c. ReadsType s c.0 A) (sym e.1) r) (subst (λ c. ReadsType s c.0 B) (sym e.0) t) in
    (A, subst (λ c. ReadsType s c.0 A) (sym e.1) r, w.0, w.1)

-- lists of cells
pub as_long : {s : Contents} {is : List ℕ} {Ts : List Ty} → ReadTypes s is Ts → length Ts ≡ length is
as_long none_read = refl
as_long (more_types r p) = ap suc (as_long p)

pub read_front : (s : Contents) (is js : List CellId) (Ts Us : List Ty) → ReadStack s is Ts → ReadStack s js Us → ReadStack s (is ++ js) (Ts ++ Us)
read_front s [] js Ts Us r q = go r
  where
    go : {Vs : List Ty} → ReadTypes s [] Vs → ReadStack s js (Vs ++ Us)
    go none_read = q
read_front s (i ∷ is) js Ts Us r q = go r (λ Vs k. read_front s is js Vs Us k q)
  where
    go : {Vs : List Ty} → ReadTypes s (i.0 ∷ map (λ c. c.0) is) Vs → ((Ws : List Ty) → ReadStack s is Ws → ReadStack s (is ++ js) (Ws ++ Us)) → ReadStack s (i ∷ (is ++ js)) (Vs ++ Us)
    go (more_types {Ts = Ws} r p) f = more_types r (f Ws p)

pub pairs_front : (s : Contents) (xs ys : List (CellId × CellId)) (ps qs : List TypePair) → ReadPairs s xs ps → ReadPairs s ys qs → ReadPairs s (xs ++ ys) (ps ++ qs)
pairs_front s [] ys [] qs r q = q
pairs_front s [] ys (p ∷ ps) qs r q = absurd r
pairs_front s (x ∷ xs) ys [] qs r q = absurd r
pairs_front s (x ∷ xs) ys (p ∷ ps) qs r q = (r.0, pairs_front s xs ys ps qs r.1 q)

pub zipped_read : (s : Contents) (ls rs : List CellId) (Ts Us : List Ty) → ReadStack s ls Ts → ReadStack s rs Us → length ls ≡ length rs → ReadPairs s (zipped_cells ls rs) (zipped Ts Us)
zipped_read s [] [] Ts Us r q e = go r
  where
    go : {Vs : List Ty} → ReadTypes s [] Vs → ReadPairs s [] (zipped Vs Us)
    go none_read = tt
zipped_read s [] (j ∷ rs) Ts Us r q e = absurd (omega arith)
zipped_read s (i ∷ ls) [] Ts Us r q e = absurd (omega arith)
zipped_read s (i ∷ ls) (j ∷ rs) Ts Us r q e = go r q (λ Vs Ws a b. zipped_read s ls rs Vs Ws a b (omega arith))
  where
    go : {Vs Ws : List Ty} → ReadTypes s (i.0 ∷ map (λ c. c.0) ls) Vs → ReadTypes s (j.0 ∷ map (λ c. c.0) rs) Ws →
        ((Xs Ys : List Ty) → ReadStack s ls Xs → ReadStack s rs Ys → ReadPairs s (zipped_cells ls rs) (zipped Xs Ys)) → ReadPairs s ((i, j) ∷ zipped_cells ls rs) (zipped Vs Ws)
    go (more_types {Ts = Xs} x p) (more_types {Ts = Ys} y k) f = (record { left = x; right = y }, f Xs Ys p k)

pub head_pairs : (s : Contents) (ls rs : List CellId) (old now : List (CellId × CellId)) (Ts Us : List Ty) → reverse now ≡ zipped_cells ls rs ++ reverse old → old ≡ [] → length ls ≡ length rs → ReadStack s ls Ts → ReadStack s rs Us → ReadPairs s (reverse now) (zipped Ts Us)
head_pairs s ls rs old now Ts Us e f n r q =
    let z : reverse now ≡ zipped_cells ls rs = e ∙ ap (λ l. zipped_cells ls rs ++ reverse l) f ∙ append-nil (zipped_cells ls rs) in
    subst (λ l. ReadPairs s l (zipped Ts Us)) (sym z) (zipped_read s ls rs Ts Us r q n)

-- as many types
pub many_none : (s : Contents) (one other : CellId) (c : Cell) → c ≡ cell_at s one.0 → type_cells s c ≡ [] → types_at s other ≡ [] → HaveAsManyTypes s one other
many_none s one other c e f g = ap (λ y. length (type_cells s y)) (sym e) ∙ ap length f ∙ sym (ap length g)

parts_zipped : (Ts Us : List Ty) → length Ts ≡ length Us → parts_of (tys Ts) (tys Us) ≡ Some (zipped Ts Us)
parts_zipped [] [] e = refl
parts_zipped [] (U ∷ Us) e = absurd (omega arith)
parts_zipped (T ∷ Ts) [] e = absurd (omega arith)
parts_zipped (T ∷ Ts) (U ∷ Us) e = ap (λ o. elim o [ None ↦ None | Some ps ↦ Some (record { left = T; right = U } ∷ ps) ]) (parts_zipped Ts Us (omega arith))

parts_uneven : (Ts Us : List Ty) → (length Ts ≡ length Us → ⊥) → parts_of (tys Ts) (tys Us) ≡ None
parts_uneven [] [] e = absurd (e refl)
parts_uneven [] (U ∷ Us) e = refl
parts_uneven (T ∷ Ts) [] e = refl
parts_uneven (T ∷ Ts) (U ∷ Us) e = ap (λ o. elim o [ None ↦ None | Some ps ↦ Some (record { left = T; right = U } ∷ ps) ]) (parts_uneven Ts Us (λ q. e (ap suc q)))

top_named : (c d : ℕ) (ts us : Tys) → c ≡ d → same_top (con c ts) (con d us) ≡ parts_of ts us
top_named c d ts us e = let a : nat_eq c d ≡ true = grind (arith, nat_tests) in ap (λ z. if z then parts_of ts us else None) a

top_other : (c d : ℕ) (ts us : Tys) → (c ≡ d → ⊥) → same_top (con c ts) (con d us) ≡ None
top_other c d ts us e = let a : nat_eq c d ≡ false = grind (arith, nat_tests) in ap (λ z. if z then parts_of ts us else None) a

numbers_length : (is : List CellId) → length (map (λ c. c.0) is) ≡ length is
numbers_length [] = refl
numbers_length (i ∷ is) = ap suc (numbers_length is)

stack_long : (s : Contents) (is : List CellId) (Ts : List Ty) → ReadStack s is Ts → length Ts ≡ length is
stack_long s is Ts r = as_long r ∙ numbers_length is

-- two types of one constructor
pub split_even : (s : Contents) (one other c d : ℕ) (l m : Span) (ls rs : List CellId) (A B : Ty) (old new : List (CellId × CellId)) → TypeCon c l ≡ cell_at s one → TypeCon d m ≡ cell_at s other →
    ls ≡ span s.items l.from l.count → rs ≡ span s.items m.from m.count → c ≡ d → length ls ≡ length rs → new ≡ zipped_cells ls rs ++ old → ReadsType s one A → ReadsType s other B → IsSplit true s A B old new
split_even s one other c d l m ls rs A B old new e f g h n k z r q =
    let a = con_read s one c l A (sym e) r in
    let b = con_read s other d m B (sym f) q in
    let x : ReadStack s ls a.0 = subst (λ y. ReadStack s y a.0) (sym g) a.1 in
    let y : ReadStack s rs b.0 = subst (λ w. ReadStack s w b.0) (sym h) b.1 in
    let u : length a.0 ≡ length b.0 = stack_long s ls a.0 x ∙ k ∙ sym (stack_long s rs b.0 y) in (
      zipped a.0 b.0,
      ap (λ T. same_top T B) a.2 ∙ ap (same_top (con c (tys a.0))) b.2 ∙ top_named c d (tys a.0) (tys b.0) n ∙ parts_zipped a.0 b.0 u,
      λ qs w. subst (λ v. ReadPairs s v (zipped a.0 b.0 ++ qs)) (sym z) (pairs_front s (zipped_cells ls rs) old (zipped a.0 b.0) qs (zipped_read s ls rs a.0 b.0 x y k) w),
    )

pub split_other : (s : Contents) (one other c d : ℕ) (l m : Span) (A B : Ty) → TypeCon c l ≡ cell_at s one → TypeCon d m ≡ cell_at s other → (c ≡ d → ⊥) → ReadsType s one A → ReadsType s other B → same_top A B ≡ None
split_other s one other c d l m A B e f n r q =
    let a = con_read s one c l A (sym e) r in
    let b = con_read s other d m B (sym f) q in
    ap (λ T. same_top T B) a.2 ∙ ap (same_top (con c (tys a.0))) b.2 ∙ top_other c d (tys a.0) (tys b.0) n

pub split_uneven : (s : Contents) (one other c d : ℕ) (l m : Span) (ls rs : List CellId) (A B : Ty) → TypeCon c l ≡ cell_at s one → TypeCon d m ≡ cell_at s other →
    ls ≡ span s.items l.from l.count → rs ≡ span s.items m.from m.count → c ≡ d → (length ls ≡ length rs → ⊥) → ReadsType s one A → ReadsType s other B → same_top A B ≡ None
split_uneven s one other c d l m ls rs A B e f g h n k r q =
    let a = con_read s one c l A (sym e) r in
    let b = con_read s other d m B (sym f) q in
    let x : ReadStack s ls a.0 = subst (λ y. ReadStack s y a.0) (sym g) a.1 in
    let y : ReadStack s rs b.0 = subst (λ w. ReadStack s w b.0) (sym h) b.1 in
    ap (λ T. same_top T B) a.2 ∙ ap (same_top (con c (tys a.0))) b.2 ∙ top_named c d (tys a.0) (tys b.0) n ∙
    parts_uneven a.0 b.0 (λ u. k (sym (stack_long s ls a.0 x) ∙ u ∙ stack_long s rs b.0 y))

pub split_arrows : (s : Contents) (one other : ℕ) (a b c d : CellId) (A B : Ty) (old mid new : List (CellId × CellId)) → TypeArrow a b ≡ cell_at s one → TypeArrow c d ≡ cell_at s other →
    mid ≡ old ++ (b, d) ∷ [] → new ≡ mid ++ (a, c) ∷ [] → ReadsType s one A → ReadsType s other B → IsSplit true s A B (reverse old) (reverse new)
split_arrows s one other a b c d A B old mid new e f m z r q =
    let x = arrow_read s one a b A (sym e) r in
    let y = arrow_read s other c d B (sym f) q in
    let n : reverse new ≡ (a, c) ∷ (b, d) ∷ reverse old = reverse_pushed new mid (a, c) z ∙ ap (λ l. (a, c) ∷ l) (reverse_pushed mid old (b, d) m) in (
      record { left = x.0; right = y.0 } ∷ record { left = x.1; right = y.1 } ∷ [],
      ap (λ T. same_top T B) x.4 ∙ ap (same_top (arrow x.0 x.1)) y.4,
      λ qs w. subst (λ v. ReadPairs s v (record { left = x.0; right = y.0 } ∷ record { left = x.1; right = y.1 } ∷ qs)) (sym n) (record { left = x.2; right = y.2 }, (record { left = x.3; right = y.3 }, w)),
    )

shape : (c : Cell) → MayBeType c → IsResolved c → (c ≡ TypeVar → ⊥) → ((n : ℕ) × (l : Span) × (c ≡ TypeCon n l)) ⊎ ((a : CellId) × (b : CellId) × (c ≡ TypeArrow a b))
shape TypeVar m r f = absurd (f refl)
shape (TypeCon n l) m r f = inl (n, l, refl)
shape (TypeArrow a b) m r f = inr (a, b, refl)
shape (Ref to) m r f = absurd r
shape (Const c l) m r f = absurd m
shape (Int z) m r f = absurd m
shape (Text l) m r f = absurd m
shape (Eigen k) m r f = absurd m
shape (Logic l) m r f = absurd m
shape (Index k) m r f = absurd m
shape (Abs b) m r f = absurd m
shape (App g l) m r f = absurd m
shape (Susp b ol nl e) m r f = absurd m

shape_read : (s : Contents) (i : ℕ) (c : Cell) (T : Ty) → c ≡ cell_at s i → IsResolved (cell_at s i) → (cell_at s i ≡ TypeVar → ⊥) → ReadsType s i T →
    ((n : ℕ) × (l : Span) × (c ≡ TypeCon n l)) ⊎ ((a : CellId) × (b : CellId) × (c ≡ TypeArrow a b))
shape_read s i c T e r f t = shape c (type_parts_read s i c (sym e) t).3 (subst IsResolved (sym e) r) (λ q. f (sym e ∙ q))

pub split_con_arrow : (s : Contents) (one other c : ℕ) (l : Span) (d : Cell) (A B : Ty) → TypeCon c l ≡ cell_at s one → d ≡ cell_at s other → IsResolved (cell_at s other) → (cell_at s other ≡ TypeVar → ⊥) → ((n : ℕ) (m : Span) → d ≡ TypeCon n m → ⊥) →
    ReadsType s one A → ReadsType s other B → same_top A B ≡ None
split_con_arrow s one other c l d A B e f v n g r q = go (shape_read s other d B f v n q)
  where
    go : ((m : ℕ) × (k : Span) × (d ≡ TypeCon m k)) ⊎ ((a : CellId) × (b : CellId) × (d ≡ TypeArrow a b)) → same_top A B ≡ None
    go (inl h) = absurd (g h.0 h.1 h.2)
    go (inr h) =
        let x = con_read s one c l A (sym e) r in
        let y = arrow_read s other h.0 h.1 B (sym f ∙ h.2) q in
        ap (λ T. same_top T B) x.2 ∙ ap (same_top (con c (tys x.0))) y.4

pub split_arrow_con : (s : Contents) (one other : ℕ) (a b : CellId) (d : Cell) (A B : Ty) → TypeArrow a b ≡ cell_at s one → d ≡ cell_at s other → IsResolved (cell_at s other) → (cell_at s other ≡ TypeVar → ⊥) → ((x y : CellId) → d ≡ TypeArrow x y → ⊥) →
    ReadsType s one A → ReadsType s other B → same_top A B ≡ None
split_arrow_con s one other a b d A B e f v n g r q = go (shape_read s other d B f v n q)
  where
    go : ((m : ℕ) × (k : Span) × (d ≡ TypeCon m k)) ⊎ ((x : CellId) × (y : CellId) × (d ≡ TypeArrow x y)) → same_top A B ≡ None
    go (inr h) = absurd (g h.0 h.1 h.2)
    go (inl h) =
        let x = arrow_read s one a b A (sym e) r in
        let y = con_read s other h.0 h.1 B (sym f ∙ h.2) q in
        ap (λ T. same_top T B) x.4 ∙ ap (same_top (arrow x.0 x.1)) y.2

-- a cell that is neither
pub split_no_type : (s : Contents) (one : ℕ) (c : Cell) (A : Ty) → c ≡ cell_at s one → IsResolved (cell_at s one) → (cell_at s one ≡ TypeVar → ⊥) → ((n : ℕ) (l : Span) → c ≡ TypeCon n l → ⊥) → ((a b : CellId) → c ≡ TypeArrow a b → ⊥) → ReadsType s one A → ⊥
split_no_type s one c A e v n g h r = elim (shape_read s one c A e v n r) [
  | inl k ↦ g k.0 k.1 k.2
  | inr k ↦ h k.0 k.1 k.2
]
