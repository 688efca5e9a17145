-- The first numbers of copies, which are put at the places of the copies when these are left.
use Rattle.std.proofs.Common.{◌≡◌, ◌∙◌, ◌+◌, ◌<◌, ◌≤◌, ℕ, zero, suc, min, List, [], ◌∷◌, ◌++◌, length, map, drop, reverse, get_or, ap, refl, sym, subst, arith}
use Rattle.std.specs.Prelude.{set}
use Rattle.std.proofs.lemmas.List.{append-nil, length-append, length-map}
use Rattle.lp_lemmas.proofs.Lists.{reverse_pushed, map_pushed}
use Rattle.lp_copies.specs.Copies.{IsOpened, IsClosed}
use Rattle.lp_link.specs.declared.names.Firsts.{Firsts}
use Rattle.lp_link.specs.declared.linking.Ends.{Ends as CodeEnds}
use Rattle.lp_link.specs.Linked.{Ends}
use Rattle.lp_link.specs.inner.Tabled.{counted}
use Rattle.lp_link.specs.inner.Entering.{past, AreFirst, no_first, one_first, AreFilled, AreFew, begun, ends_of}

set_there : {A : Type 0} (xs ys : List A) (x y : A) → set ((xs ++ x ∷ []) ++ ys) (length xs) y ≡ xs ++ (y ∷ ys)
set_there [] ys x y = refl
set_there (z ∷ xs) ys x y = ap (λ l. z ∷ l) (set_there xs ys x y)

grouped : {A : Type 0} (xs ys zs : List A) (y : A) → (xs ++ (y ∷ ys)) ++ zs ≡ xs ++ (y ∷ (ys ++ zs))
grouped [] ys zs y = refl
grouped (x ∷ xs) ys zs y = ap (λ l. x ∷ l) (grouped xs ys zs y)

pub map_set : {A B : Type 0} (f : A → B) (xs : List A) (i : ℕ) (x : A) → map f (set xs i x) ≡ set (map f xs) i (f x)
map_set f [] i x = refl
map_set f (y ∷ ys) zero x = refl
map_set f (y ∷ ys) (suc i) x = ap (λ l. f y ∷ l) (map_set f ys i x)

abbrev head_of : ℕ → List ℕ → ℕ
head_of d [] = d
head_of d (x ∷ xs) = x

abbrev tail_of : List ℕ → List ℕ
tail_of [] = []
tail_of (x ∷ xs) = xs

module _ (uses : List (List ℕ)) (ks cs : List ℕ) where
  none_first : (entries : List ℕ) (begin end : Ends) (all : List Ends) → entries ≡ [] → AreFirst uses ks cs entries begin all end → (all ≡ []) × (end ≡ begin)
  none_first entries begin end all q (no_first e) = (refl, refl)
  none_first entries begin end all q (one_first m rest b mid e inner more l x y is) = absurd (let n = ap length q in omega (arith, n))

  first_parts : (m : ℕ) (rest entries : List ℕ) (begin end : Ends) (all : List Ends) → entries ≡ m ∷ rest → AreFirst uses ks cs entries begin all end
      → (mid : Ends) × (inner : List Ends) × (more : List Ends) × AreFirst uses ks cs (get_or uses m []) begin inner mid × AreFirst uses ks cs rest
      (past ks cs m mid) more end × (all ≡ mid ∷ (inner ++ more))
  first_parts m rest entries begin end all q (no_first e) = absurd (let n = ap length q in omega (arith, n))
  first_parts m rest entries begin end all q (one_first k r b mid e inner more l x y is) =
      let at : k ≡ m = ap (head_of k) q in
      let on : r ≡ rest = ap tail_of q in (
        mid,
        inner,
        more,
        subst (λ i. AreFirst uses ks cs (get_or uses i []) begin inner mid) at x,
        subst (λ i. AreFirst uses ks cs rest (past ks cs i mid) more end) at (subst (λ i. AreFirst uses ks cs i (past ks cs k mid) more end) on y),
        is,
      )

  rising : (entries : List ℕ) (begin end : Ends) (all : List Ends) → AreFirst uses ks cs entries begin all end → (begin.kinds ≤ end.kinds) × (begin.constants ≤ end.constants)
  rising entries begin end all (no_first e) = (omega arith, omega arith)
  rising entries begin end all (one_first m rest b mid e inner more l x y is) =
      let (a, c) = rising (get_or uses m []) begin mid inner x in
      let (d, f) = rising rest (past ks cs m mid) end more y in
      (omega (arith, a, d), omega (arith, c, f))

  below_end : (now end : Ends) (fs : List (ℕ × ℕ)) (hs : List ℕ) (firsts all : List Ends) → AreFilled uses ks cs now fs hs firsts all end → (now.kinds ≤ end.kinds) × (now.constants ≤ end.constants)
  below_end now end [] [] firsts all (is, e) = let k = ap (λ (x : Ends). x.kinds) e in let c = ap (λ (x : Ends). x.constants) e in (omega (arith, k), omega (arith, c))
  below_end now end [] (h ∷ hs) firsts all a = absurd a
  below_end now end (f ∷ fs) [] firsts all a = absurd a
  below_end now end (f ∷ fs) (h ∷ hs) firsts all (inner, mid, l, x, more) =
      let (a, c) = rising (drop f.1 (get_or uses f.0 [])) now mid inner x in
      let (d, g) = below_end (past ks cs f.0 mid) end fs hs (set (firsts ++ inner) h mid) all more in
      (omega (arith, a, d), omega (arith, c, g))

  -- the root is open
  pub filled_begins : (root : ℕ) (begin end : Ends) (fs : List (ℕ × ℕ)) (hs : List ℕ) (firsts all : List Ends) (unknown : Ends) → fs ≡ (root, 0) ∷ []
      → hs ≡ 0 ∷ [] → firsts ≡ unknown ∷ [] → AreFirst uses ks cs (root ∷ []) begin all end
      → AreFilled uses ks cs begin fs hs firsts all end
  filled_begins root begin end fs hs firsts all unknown ef eh el x =
      let (mid, inner, more, a, b, is) = first_parts root [] (root ∷ []) begin end all refl x in
      let (none, last) = none_first [] (past ks cs root mid) end more refl b in
      subst (λ f. AreFilled uses ks cs begin f hs firsts all end) (sym ef) (subst (λ h. AreFilled uses ks cs begin ((root, 0) ∷ []) h firsts all end) (sym eh)
      (subst (λ l. AreFilled uses ks cs begin ((root, 0) ∷ []) (0 ∷ []) l all end) (sym el)
      (inner, mid, omega arith, a, (sym (is ∙ ap (λ l. mid ∷ l) (ap (λ l. inner ++ l) none ∙ append-nil inner)), sym last))))

  opens_hole : (at i m h : ℕ) (now end : Ends) (fs : List (ℕ × ℕ)) (hs : List ℕ) (firsts all : List Ends) (unknown : Ends) → drop i (get_or uses at []) ≡ m ∷ drop (i + 1) (get_or uses at [])
      → AreFilled uses ks cs now ((at, i) ∷ fs) (h ∷ hs) firsts all end → AreFilled uses ks cs now ((m, 0) ∷ (at, i + 1) ∷ fs) (length firsts ∷ h ∷ hs) (firsts ++ unknown ∷ []) all end
  opens_hole at i m h now end fs hs firsts all unknown e (inner, mid, l, x, rest) =
      let (mid1, inner1, more1, a, b, is) = first_parts m (drop (i + 1) (get_or uses at [])) (drop i (get_or uses at [])) now mid inner e x in
      let here = set_there firsts inner1 unknown mid1 in
      let n = length-append firsts (unknown ∷ []) in
      let n2 = ap length here in
      let n3 = length-append firsts (mid1 ∷ inner1) in (
        inner1,
        mid1,
        omega (arith, n),
        a,
        (
          more1,
          mid,
          omega (arith, l, n2, n3),
          b,
          subst (λ g. AreFilled uses ks cs (past ks cs at mid) fs hs (set g h mid) all end) (ap (λ g. firsts ++ g) is ∙ sym (grouped firsts inner1 more1 mid1) ∙ ap (λ g. g ++ more1) (sym here)) rest,
        ),
      )

  -- a copy is entered
  pub filled_opens : (m : ℕ) (now end : Ends) (fs fs' : List (ℕ × ℕ)) (hs hs' : List ℕ) (firsts firsts' all : List Ends) (unknown : Ends) → IsOpened
      uses fs m fs' → hs' ≡ length firsts ∷ hs → firsts' ≡ firsts ++ unknown ∷ []
      → AreFilled uses ks cs now fs hs firsts all end → AreFilled uses ks cs now fs' hs' firsts' all end
  filled_opens m now end fs fs' hs hs' firsts firsts' all unknown opened eh el filled =
      subst (λ f. AreFilled uses ks cs now f hs' firsts' all end) (sym opened.after)
      (subst (λ h. AreFilled uses ks cs now ((m, 0) ∷ (opened.at, opened.next + 1) ∷ opened.around) h firsts' all end) (sym eh)
      (subst (λ l. AreFilled uses ks cs now ((m, 0) ∷ (opened.at, opened.next + 1) ∷ opened.around) (length firsts ∷ hs) l all end) (sym el)
      (by hs (subst (λ f. AreFilled uses ks cs now f hs firsts all end) opened.before filled))))
    where
      by : (hs : List ℕ) → AreFilled uses ks cs now ((opened.at, opened.next) ∷ opened.around) hs firsts all end
          → AreFilled uses ks cs now ((m, 0) ∷ (opened.at, opened.next + 1) ∷ opened.around) (length firsts ∷ hs) (firsts ++ unknown ∷ []) all end
      by [] a = absurd a
      by (h ∷ hs) a = opens_hole opened.at opened.next m h now end opened.around hs firsts all unknown opened.entry a

  -- a copy is left, and has its numbers
  pub filled_closes : (m : ℕ) (now end : Ends) (fs fs' : List (ℕ × ℕ)) (hs : List ℕ) (firsts all : List Ends) → IsClosed uses fs m fs' → AreFew end → AreFilled uses ks cs now fs hs firsts all end
      → (h : ℕ) × (more : List ℕ) × (hs ≡ h ∷ more) × (h < length firsts) × AreFew now × AreFew (past ks cs m now) × AreFilled uses ks cs (past ks cs m now) fs' more (set firsts h now) all end
  filled_closes m now end fs fs' hs firsts all closed (fk, fc) filled = by hs (subst (λ f. AreFilled uses ks cs now f hs firsts all end) closed.before filled)
    where
      by : (hs : List ℕ) → AreFilled uses ks cs now ((m, closed.next) ∷ fs') hs firsts all end
          → (h : ℕ) × (more : List ℕ) × (hs ≡ h ∷ more) × (h < length firsts) × AreFew now × AreFew (past ks cs m now) × AreFilled uses ks cs (past ks cs m now) fs' more (set firsts h now) all end
      by [] a = absurd a
      by (h ∷ hs) (inner, mid, l, x, rest) =
          let (none, same) = none_first (drop closed.next (get_or uses m [])) now mid inner closed.entry x in
          let after : AreFilled uses ks cs (past ks cs m now) fs' hs (set firsts h now) all end =
          subst (λ e. AreFilled uses ks cs (past ks cs m e) fs' hs (set firsts h e) all end) same
          (subst (λ g. AreFilled uses ks cs (past ks cs m mid) fs' hs (set g h mid) all end) (ap (λ g. firsts ++ g) none ∙ append-nil firsts) rest) in
          let (a, b) = below_end (past ks cs m now) end fs' hs (set firsts h now) all after in
          (h, hs, refl, l, (omega (arith, a, fk), omega (arith, b, fc)), (omega (arith, a, fk), omega (arith, b, fc)), after)

  pub filled_ends : (now end : Ends) (hs : List ℕ) (firsts all : List Ends) → AreFilled uses ks cs now [] hs firsts all end → firsts ≡ all
  filled_ends now end [] firsts all (is, e) = is
  filled_ends now end (h ∷ hs) firsts all a = absurd a

-- small numbers as they are written
pub written_ends : (e : CodeEnds) (f : Firsts) → AreFew (begun e) → f.kind ≡ counted e.kind → f.constant ≡ counted e.constant → ends_of f ≡ begun e
written_ends e f (k, c) fk fc =
    let a : f.kind ≡ e.kind = omega (arith, k, fk) in
    let b : f.constant ≡ e.constant = omega (arith, c, fc) in
    λ i. record { kinds = a i; constants = b i }

pub ends_past : (ks cs : List ℕ) (m : ℕ) (e f : CodeEnds) → AreFew (past ks cs m (begun e)) → f.kind ≡ min (e.kind + get_or ks m 0)
    18446744073709551615 → f.constant ≡ min (e.constant + get_or cs m 0) 18446744073709551615 → begun f ≡ past ks cs m (begun e)
ends_past ks cs m e f (k, c) fk fc =
    let a : f.kind ≡ e.kind + get_or ks m 0 = omega (arith, k, fk) in
    let b : f.constant ≡ e.constant + get_or cs m 0 = omega (arith, c, fc) in
    λ i. record { kinds = a i; constants = b i }

-- what `fill` does
abbrev pub IsPut : (inside inside' : List ℕ) → (firsts firsts' : List Firsts) → Firsts → Type 0
IsPut inside inside' firsts firsts' own = (at : ℕ) (rest : List ℕ) → reverse inside ≡ at ∷ rest → at < length firsts → (reverse inside' ≡ rest) × (firsts' ≡ set firsts at own)

pub filled_left : (uses : List (List ℕ)) (ks cs : List ℕ) (m : ℕ) (now later : CodeEnds) (own : Firsts) (end : Ends) (fs fs' : List (ℕ × ℕ))
    (inside inside' : List ℕ) (firsts firsts' : List Firsts) (all : List Ends) → IsClosed uses fs m fs' → AreFew end
    → own.kind ≡ counted now.kind → own.constant ≡ counted now.constant → later.kind ≡ min (now.kind + get_or ks m 0) 18446744073709551615 →
    later.constant ≡ min (now.constant + get_or cs m 0) 18446744073709551615
    → IsPut inside inside' firsts firsts' own → AreFilled uses ks cs (begun now) fs (reverse inside) (map ends_of firsts) all end → AreFilled uses ks
    cs (begun later) fs' (reverse inside') (map ends_of firsts') all end
filled_left uses ks cs m now later own end fs fs' inside inside' firsts firsts' all closed few ok oc tk tc put filled =
    let (h, more, hs, l, few_now, few_then, after) = filled_closes uses ks cs m (begun now) end fs fs' (reverse inside) (map ends_of firsts) all closed few filled in
    let n = length-map firsts ends_of in
    let (left, set_is) = put h more hs (omega (arith, l, n)) in
    let own_is = written_ends now own few_now ok oc in
    let later_is = ends_past ks cs m now later few_then tk tc in
    subst (λ e. AreFilled uses ks cs e fs' (reverse inside') (map ends_of firsts') all end) (sym later_is)
    (subst (λ l. AreFilled uses ks cs (past ks cs m (begun now)) fs' l (map ends_of firsts') all end) (sym left)
    (subst (λ l. AreFilled uses ks cs (past ks cs m (begun now)) fs' more l all end) (sym (ap (map ends_of) set_is ∙ map_set ends_of firsts h own ∙ ap (set (map ends_of firsts) h) own_is)) after))

pub filled_last : (uses : List (List ℕ)) (ks cs : List ℕ) (m : ℕ) (now : CodeEnds) (own : Firsts) (end : Ends) (fs : List (ℕ × ℕ))
    (inside inside' : List ℕ) (firsts firsts' : List Firsts) (all : List Ends) → IsClosed uses fs m [] → AreFew end
    → own.kind ≡ counted now.kind → own.constant ≡ counted now.constant → IsPut inside inside' firsts firsts' own → AreFilled uses ks cs (begun now)
    fs (reverse inside) (map ends_of firsts) all end → map ends_of firsts' ≡ all
filled_last uses ks cs m now own end fs inside inside' firsts firsts' all closed few ok oc put filled =
    let (h, more, hs, l, few_now, few_then, after) = filled_closes uses ks cs m (begun now) end fs [] (reverse inside) (map ends_of firsts) all closed few filled in
    let n = length-map firsts ends_of in
    let (left, set_is) = put h more hs (omega (arith, l, n)) in
    let own_is = written_ends now own few_now ok oc in
    ap (map ends_of) set_is ∙ map_set ends_of firsts h own ∙ ap (set (map ends_of firsts) h) own_is ∙ filled_ends uses ks cs
    (past ks cs m (begun now)) end more (set (map ends_of firsts) h (begun now)) all after

pub filled_entered : (uses : List (List ℕ)) (ks cs : List ℕ) (m : ℕ) (now : Ends) (end : Ends) (fs fs' : List (ℕ × ℕ)) (inside inside' : List ℕ)
    (count : ℕ) (firsts firsts' : List Firsts) (unknown : Firsts) (all : List Ends) → IsOpened uses fs m fs'
    → inside' ≡ inside ++ count ∷ [] → count ≡ length firsts → firsts' ≡ firsts ++ unknown ∷ [] → AreFilled uses ks cs now fs (reverse inside)
    (map ends_of firsts) all end → AreFilled uses ks cs now fs' (reverse inside') (map ends_of firsts') all end
filled_entered uses ks cs m now end fs fs' inside inside' count firsts firsts' unknown all opened ei en ef filled =
    filled_opens uses ks cs m now end fs fs' (reverse inside) (reverse inside') (map ends_of firsts) (map ends_of firsts') all (ends_of unknown) opened
    (reverse_pushed inside' inside count ei ∙ ap (λ n. n ∷ reverse inside) (en ∙ sym (length-map firsts ends_of))) (map_pushed ends_of firsts firsts' unknown ef) filled
