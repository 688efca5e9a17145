-- What binding a variable does to the reading, to what is kept and to the pairs; and the choice between two tops.
use Rattle.std.proofs.Common.{◌≡◌, ◌≢◌, ℕ, ◌<◌, ◌≤◌, inl, inr, List, [], ◌∷◌, ◌++◌, map, reverse, Option, Some, None, refl, sym, ap, ◌∙◌, subst, arith}
use Rattle.std.specs.Prelude.{nat_eq, nat_lt, if◌then◌else◌, true, false}
use Rattle.std.proofs.lemmas.Bool.{eq-eqb, ne_eqb, cases_eq, lt-ltb, le-ltb}
use Rattle.lp_lemmas.proofs.Lists.{map_reverse}
use Rattle.lp_calculus.specs.Types.{Ty, var, param, con, arrow, instance}
use Rattle.lp_calculus.proofs.TypeLaws.{instance-instance}
use Rattle.lp_term.specs.declared.node.TypeId.{TypeId}
use Rattle.lp_type_laws.specs.Equations.{Equation, one, put_equation, occurs}
use Rattle.lp_type_laws.specs.Solving.{Look, nothing, binds, clash, bind_to, look, clashes, goes, turn_of}
use Rattle.lp_type_laws.specs.Units.{visited, checked}
use Rattle.lp_type_laws.proofs.Types.{one_same, one_other, one_absent}
use Rattle.lp_type_unify.specs.declared.bindings.Pair.{Pair}
use Rattle.lp_type_unify.specs.Reading.{and_bound, reading_from, reading, IsOlder, Slot, Kept, read_pair, read_pairs}
use Rattle.lp_type_unify.specs.Looking.{IsLoose, IsUnbound, IsMade, Binds}

reading_append : (τ θ : ℕ → Ty) (bs : List (ℕ × TypeId)) (b : ℕ × TypeId) → reading_from τ θ (bs ++ b ∷ []) ≡ and_bound b.0 (τ b.1.0) (reading_from τ θ bs)
reading_append τ θ [] b = refl
reading_append τ θ (a ∷ bs) b = reading_append τ (and_bound a.0 (τ a.1.0) θ) bs b

slot_stays : (τ : ℕ → Ty) (n : ℕ) (θ : ℕ → Ty) (x : ℕ) (t : Ty) (y : ℕ) → y ≢ x → (o : Option TypeId) → Slot τ n θ y o → Slot τ n (and_bound x t θ) y o
slot_stays τ n θ x t y ne None h = ap (instance (one x (instance θ t))) h ∙ one_other x y (instance θ t) ne
slot_stays τ n θ x t y ne (Some s) h = (ap (instance (one x (instance θ t))) h.0 ∙ instance-instance θ (one x (instance θ t)) (τ s.0), h.1, h.2)

slot_made : (τ : ℕ → Ty) (n : ℕ) (θ : ℕ → Ty) (x : ℕ) (to : TypeId) → θ x ≡ var x → IsOlder x (τ to.0) → to.0 < n → occurs x (instance θ (τ to.0)) ≡ false →
    Slot τ n (and_bound x (τ to.0) θ) x (Some to)
slot_made τ n θ x to l o k a =
    let t = instance θ (τ to.0) in
    (ap (instance (one x t)) l ∙ one_same x t ∙ sym (one_absent x t t a) ∙ instance-instance θ (one x t) (τ to.0), o, k)

-- what an unbound variable reads as
pub loose_var : (τ : ℕ → Ty) (n : ℕ) (s : ℕ → Option TypeId) (θ : ℕ → Ty) (x : ℕ) → Kept τ n s θ → s x ≡ None → θ x ≡ var x
loose_var τ n s θ x k e = subst (λ o. Slot τ n θ x o) e (k x)

pub loose : (τ : ℕ → Ty) (n : ℕ) (s : ℕ → Option TypeId) (θ : ℕ → Ty) (t : Ty) → Kept τ n s θ → IsUnbound s t → IsLoose θ t
loose τ n s θ (var x) k u = loose_var τ n s θ x k u
loose τ n s θ (param k') k u = tt
loose τ n s θ (con c ts) k u = tt
loose τ n s θ (arrow a b) k u = tt

-- the reading after one more binding
pub reads_now : (τ : ℕ → Ty) (bs cs : List (ℕ × TypeId)) (x : ℕ) (to : TypeId) → cs ≡ bs ++ (x, to) ∷ [] →
    reading τ cs ≡ (λ i. instance (one x (instance (reading τ bs) (τ to.0))) (reading τ bs i))
reads_now τ bs cs x to f = ap (reading τ) f ∙ reading_append τ var bs (x, to)

pub kept_now : (τ : ℕ → Ty) (n : ℕ) (s r : ℕ → Option TypeId) (bs cs : List (ℕ × TypeId)) (x : ℕ) (to : TypeId) →
    Kept τ n s (reading τ bs) → s x ≡ None → IsOlder x (τ to.0) → to.0 < n → occurs x (instance (reading τ bs) (τ to.0)) ≡ false →
    ((y : ℕ) → r y ≡ (if nat_eq x y then Some to else s y)) → cs ≡ bs ++ (x, to) ∷ [] → Kept τ n r (reading τ cs)
kept_now τ n s r bs cs x to K u o k a e f = subst (λ ι. Kept τ n r ι) (sym (reads_now τ bs cs x to f)) (λ y. at y)
  where
    at : (y : ℕ) → Slot τ n (and_bound x (τ to.0) (reading τ bs)) y (r y)
    at y = elim (cases_eq y x) [
      | inl q ↦ subst (λ z. Slot τ n (and_bound x (τ to.0) (reading τ bs)) z (r z)) (sym q)
          (subst (λ g. Slot τ n (and_bound x (τ to.0) (reading τ bs)) x g) (sym (e x ∙ ap (λ b. if b then Some to else s x) (eq-eqb x x refl)))
          (slot_made τ n (reading τ bs) x to (loose_var τ n s (reading τ bs) x K u) o k a))
      | inr ne ↦ subst (λ g. Slot τ n (and_bound x (τ to.0) (reading τ bs)) y g) (sym (e y ∙ ap (λ b. if b then Some to else s y) (ne_eqb x y (λ q. ne (sym q)))))
          (slot_stays τ n (reading τ bs) x (τ to.0) y ne (s y) (K y))
    ]

-- pairs under a replacement

map-put : (τ θ κ : ℕ → Ty) (ps : List Pair) → map (put_equation κ) (map (read_pair τ θ) ps) ≡ map (read_pair τ (λ i. instance κ (θ i))) ps
map-put τ θ κ [] = refl
map-put τ θ κ (p ∷ ps) =
    let e = instance-instance θ κ (τ p.left.0) in let f = instance-instance θ κ (τ p.right.0) in let g = map-put τ θ κ ps in cc

pub read_put : (τ θ κ : ℕ → Ty) (ps : List Pair) → map (put_equation κ) (read_pairs τ θ ps) ≡ read_pairs τ (λ i. instance κ (θ i)) ps
read_put τ θ κ ps = map_reverse (put_equation κ) (map (read_pair τ θ) ps) ∙ ap reverse (map-put τ θ κ ps)

-- a look that binds, if it can

pub turned_bound : (τ : ℕ → Ty) (x : ℕ) (t : Ty) (θ ι : ℕ → Ty) (ps : List Pair) (l : Look) →
    l ≡ bind_to x t → occurs x t ≡ false → ι ≡ (λ i. instance (one x t) (θ i)) → turn_of l (read_pairs τ θ ps) θ ≡ goes (read_pairs τ ι ps) ι
turned_bound τ x t θ ι ps l e o i =
    ap (λ m. turn_of m (read_pairs τ θ ps) θ) (e ∙ ap (λ s. if s then clash else binds x t) o) ∙
    ap (λ es. goes es (λ i. instance (one x t) (θ i))) (read_put τ θ (one x t) ps) ∙
    ap (λ κ. goes (read_pairs τ κ ps) κ) (sym i)

pub turned_clash : (x : ℕ) (t : Ty) (θ : ℕ → Ty) (es : List Equation) (l : Look) → l ≡ bind_to x t → occurs x t ≡ true → turn_of l es θ ≡ clashes
turned_clash x t θ es l e o = ap (λ m. turn_of m es θ) (e ∙ ap (λ s. if s then clash else binds x t) o)

-- what a look at a variable is

pub look_left : (x : ℕ) (t : Ty) → IsMade t → look (var x) t ≡ bind_to x t
look_left x (var y) m = absurd m
look_left x (param k) m = refl
look_left x (con c ts) m = refl
look_left x (arrow a b) m = refl

pub look_right : (x : ℕ) (t : Ty) → IsMade t → look t (var x) ≡ bind_to x t
look_right x (var y) m = absurd m
look_right x (param k) m = refl
look_right x (con c ts) m = refl
look_right x (arrow a b) m = refl

checked_left : (x : ℕ) (t : Ty) → IsMade t → checked (var x) t ≡ visited x t
checked_left x (var y) m = absurd m
checked_left x (param k) m = refl
checked_left x (con c ts) m = refl
checked_left x (arrow a b) m = refl

checked_right : (x : ℕ) (t : Ty) → IsMade t → checked t (var x) ≡ visited x t
checked_right x (var y) m = absurd m
checked_right x (param k) m = refl
checked_right x (con c ts) m = refl
checked_right x (arrow a b) m = refl

pub checked_none : (t u : Ty) → IsMade t → IsMade u → checked t u ≡ 0
checked_none (var x) u m n = absurd m
checked_none (param k) (var y) m n = absurd n
checked_none (param k) (param l) m n = refl
checked_none (param k) (con c ts) m n = refl
checked_none (param k) (arrow a b) m n = refl
checked_none (con d us) (var y) m n = absurd n
checked_none (con d us) (param l) m n = refl
checked_none (con d us) (con c ts) m n = refl
checked_none (con d us) (arrow a b) m n = refl
checked_none (arrow a b) (var y) m n = absurd n
checked_none (arrow a b) (param l) m n = refl
checked_none (arrow a b) (con c ts) m n = refl
checked_none (arrow a b) (arrow c d) m n = refl

look_apart : (x y : ℕ) → x ≢ y → look (var x) (var y) ≡ (if nat_lt x y then binds y (var x) else binds x (var y))
look_apart x y ne = ap (λ b. if b then nothing else (if nat_lt x y then binds y (var x) else binds x (var y))) (ne_eqb x y ne)

look_older : (x y : ℕ) → x < y → look (var x) (var y) ≡ bind_to y (var x)
look_older x y l =
    let ne : x ≢ y = omega arith in
    let on : y ≢ x = omega arith in
    look_apart x y ne ∙ ap (λ b. if b then binds y (var x) else binds x (var y)) (lt-ltb x y l) ∙
    sym (ap (λ s. if s then clash else binds y (var x)) (ne_eqb y x on))

look_younger : (x y : ℕ) → y < x → look (var x) (var y) ≡ bind_to x (var y)
look_younger x y l =
    let ne : x ≢ y = omega arith in
    let le : y ≤ x = omega arith in
    look_apart x y ne ∙ ap (λ b. if b then binds y (var x) else binds x (var y)) (le-ltb x y le) ∙
    sym (ap (λ s. if s then clash else binds x (var y)) (ne_eqb x y ne))

look_same : (x y : ℕ) → x ≡ y → look (var x) (var y) ≡ nothing
look_same x y e = ap (λ b. if b then nothing else (if nat_lt x y then binds y (var x) else binds x (var y))) (eq-eqb x y e)

pub made_instance : (θ : ℕ → Ty) (t : Ty) → IsMade t → IsMade (instance θ t)
made_instance θ (var x) m = absurd m
made_instance θ (param k) m = tt
made_instance θ (con c ts) m = tt
made_instance θ (arrow a b) m = tt

-- a variable that is not bound is what it reads as
pub top_var : (θ : ℕ → Ty) (t : Ty) (x : ℕ) → t ≡ var x → IsLoose θ t → instance θ t ≡ var x
top_var θ t x e l = ap (instance θ) e ∙ subst (λ u. IsLoose θ u) e l

-- the choices, by what the two types are on top

older_made : (x : ℕ) (t : Ty) → IsMade t → IsOlder x t
older_made x (var y) m = absurd m
older_made x (param k) m = tt
older_made x (con c ts) m = tt
older_made x (arrow a b) m = tt

pub chosen_drop : (τ θ : ℕ → Ty) (left right : TypeId) (x y : ℕ) → τ left.0 ≡ var x → τ right.0 ≡ var y → x ≡ y → IsLoose θ (τ left.0) → IsLoose θ (τ right.0) →
    (look (instance θ (τ left.0)) (instance θ (τ right.0)) ≡ nothing) × (checked (instance θ (τ left.0)) (instance θ (τ right.0)) ≡ 0)
chosen_drop τ θ left right x y a b e l k =
    let p = top_var θ (τ left.0) x a l in
    let q = top_var θ (τ right.0) y b k in (
      ap (λ s. look s (instance θ (τ right.0))) p ∙ ap (look (var x)) q ∙ look_same x y e,
      ap (λ s. checked s (instance θ (τ right.0))) p ∙ ap (checked (var x)) q ∙ ap (λ b. if b then 0 else 1) (eq-eqb x y e),
    )

pub chosen_older : (τ : ℕ → Ty) (n : ℕ) (θ : ℕ → Ty) (left right : TypeId) (x y : ℕ) → left.0 < n → τ left.0 ≡ var x → τ right.0 ≡ var y → x < y →
    IsLoose θ (τ left.0) → IsLoose θ (τ right.0) → Binds τ n θ left right y left
chosen_older τ n θ left right x y w a b h l k =
    let p = top_var θ (τ left.0) x a l in
    let q = top_var θ (τ right.0) y b k in
    let ne : x ≢ y = omega (arith, h) in
    record {
      looks = ap (look (instance θ (τ left.0))) q ∙ ap (λ s. look s (var y)) p ∙ look_older x y h ∙ ap (bind_to y) (sym p);
      visits = ap (checked (instance θ (τ left.0))) q ∙ ap (λ s. checked s (var y)) p ∙ ap (λ b. if b then 0 else 1) (ne_eqb x y ne) ∙ ap (visited y) (sym p);
      older = subst (IsOlder y) (sym a) h;
      side = inr b;
      known = w;
    }

pub chosen_younger : (τ : ℕ → Ty) (n : ℕ) (θ : ℕ → Ty) (left right : TypeId) (x y : ℕ) → right.0 < n → τ left.0 ≡ var x → τ right.0 ≡ var y → y < x →
    IsLoose θ (τ left.0) → IsLoose θ (τ right.0) → Binds τ n θ left right x right
chosen_younger τ n θ left right x y w a b h l k =
    let p = top_var θ (τ left.0) x a l in
    let q = top_var θ (τ right.0) y b k in
    let ne : x ≢ y = omega (arith, h) in
    record {
      looks = ap (λ s. look s (instance θ (τ right.0))) p ∙ ap (look (var x)) q ∙ look_younger x y h ∙ ap (bind_to x) (sym q);
      visits = ap (λ s. checked s (instance θ (τ right.0))) p ∙ ap (checked (var x)) q ∙ ap (λ b. if b then 0 else 1) (ne_eqb x y ne) ∙ ap (visited x) (sym q);
      older = subst (IsOlder x) (sym b) h;
      side = inl a;
      known = w;
    }

pub chosen_left : (τ : ℕ → Ty) (n : ℕ) (θ : ℕ → Ty) (left right : TypeId) (x : ℕ) → right.0 < n → τ left.0 ≡ var x → IsMade (τ right.0) → IsLoose θ (τ left.0) →
    Binds τ n θ left right x right
chosen_left τ n θ left right x w a m l =
    let p = top_var θ (τ left.0) x a l in
    let q = made_instance θ (τ right.0) m in
    record {
      looks = ap (λ s. look s (instance θ (τ right.0))) p ∙ look_left x (instance θ (τ right.0)) q;
      visits = ap (λ s. checked s (instance θ (τ right.0))) p ∙ checked_left x (instance θ (τ right.0)) q;
      older = older_made x (τ right.0) m;
      side = inl a;
      known = w;
    }

pub chosen_right : (τ : ℕ → Ty) (n : ℕ) (θ : ℕ → Ty) (left right : TypeId) (y : ℕ) → left.0 < n → τ right.0 ≡ var y → IsMade (τ left.0) → IsLoose θ (τ right.0) →
    Binds τ n θ left right y left
chosen_right τ n θ left right y w b m k =
    let q = top_var θ (τ right.0) y b k in
    let p = made_instance θ (τ left.0) m in
    record {
      looks = ap (look (instance θ (τ left.0))) q ∙ look_right y (instance θ (τ left.0)) p;
      visits = ap (checked (instance θ (τ left.0))) q ∙ checked_right y (instance θ (τ left.0)) p;
      older = older_made y (τ left.0) m;
      side = inr b;
      known = w;
    }
