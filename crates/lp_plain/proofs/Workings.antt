-- One task more is done, or is opened into the tasks of its parts: what is left leads to the same value. By what each task takes and makes alone.
use Rattle.std.proofs.Common.{◌≡◌, List, [], ◌∷◌, ◌++◌, map, reverse, length, refl, sym, ap, ◌∙◌, subst as transport, arith, append-nil, append_assoc, length-append}
use Rattle.std.specs.Prelude.{All}
use Rattle.std.proofs.lemmas.List.{reverse-append, map-append, length-map}
use Rattle.std.proofs.lemmas.List.Elements.{All-nil, All-head, All-tail, All-push, All-weaker}
use Rattle.lp_term.proofs.Walks.{All-front, All-back}
use Rattle.lp_plain.specs.Working.{Ends, IsLeft}

-- with a weaker relation
pub weaker : {T V : Type 0} (D E : T → List V → V → Type 0) → ((t : T) (us : List V) (v : V) → D t us v → E t us v) → (ts : List T) (made : List V) (r : V) → Ends D ts made r → Ends E ts made r
weaker D E h [] made r w = w
weaker D E h (t ∷ ts) made r w = (w.0, w.1, w.2, w.3, h t w.1 w.2 w.4, weaker D E h ts (w.0 ++ w.2 ∷ []) r w.5)

-- tasks that take nothing, in front of the others
pub each_first : {T V X : Type 0} (D : T → List V → V → Type 0) (f : X → T) (g : X → V) (xs : List X) → All (λ x. D (f x) [] (g x)) xs → (ts : List T) (made : List V) (r : V) → Ends D ts (made ++ map g xs) r → Ends D (map f xs ++ ts) made r
each_first D f g [] a ts made r w = transport (λ l. Ends D ts l r) (append-nil made) w
each_first D f g (x ∷ xs) a ts made r w =
    (made, [], g x, sym (append-nil made), All-head (λ y. D (f y) [] (g y)) x xs a, each_first D f g xs (All-tail (λ y. D (f y) [] (g y)) x xs a) ts (made ++ g x ∷ []) r (transport (λ l. Ends D ts l r) (sym (append_assoc made (g x ∷ []) (map g xs))) w))

fronts_same : {V : Type 0} (xs ys us vs : List V) → length xs ≡ length ys → xs ++ us ≡ ys ++ vs → (xs ≡ ys) × (us ≡ vs)
fronts_same [] [] us vs l e = (refl, e)
fronts_same [] (y ∷ ys) us vs l e = absurd (omega (arith, l))
fronts_same (x ∷ xs) [] us vs l e = absurd (omega (arith, l))
fronts_same (x ∷ xs) (y ∷ ys) us vs l e =
    let h : x ≡ y = cc in
    let t : xs ++ us ≡ ys ++ vs = cc in
    let k : length xs ≡ length ys = omega (arith, l) in
    let w = fronts_same xs ys us vs k t in
    ((λ i. h i ∷ w.0 i), w.1)

-- lists that end in as many elements
pub tails_same : {V : Type 0} (xs ys us vs : List V) → length us ≡ length vs → xs ++ us ≡ ys ++ vs → (xs ≡ ys) × (us ≡ vs)
tails_same xs ys us vs l e =
    let k : length (xs ++ us) ≡ length (ys ++ vs) = ap length e in
    fronts_same xs ys us vs (omega (arith, l, k, length-append xs us, length-append ys vs)) e

same_on : {I V : Type 0} (K : I → Type 0) (read now : I → V) → ((i : I) → K i → now i ≡ read i) → (ids : List I) → All K ids → map now ids ≡ map read ids
same_on K read now h [] a = refl
same_on K read now h (i ∷ ids) a = λ k. h i (All-head K i ids a) k ∷ same_on K read now h ids (All-tail K i ids a) k

next : {T V : Type 0} (D : T → List V → V → Type 0) (old : List T) (t : T) (made : List V) (r : V) → Ends D (reverse (old ++ t ∷ [])) made r → Ends D (t ∷ reverse old) made r
next D old t made r w = transport (λ l. Ends D l made r) (reverse-append old (t ∷ [])) w

-- the task takes the values of these numbers, and makes that of the new one
pub task_done : {T I V : Type 0} (D E : T → List V → V → Type 0) (read now : I → V) (K L : I → Type 0) → ((t : T) (us : List V) (v : V) → D t us v → E t us v) → ((i : I) → K i → L i) →
    ((i : I) → K i → now i ≡ read i) → (old : List T) (t : T) (made mid ids made' : List I) (new : I) (r : V) → made ≡ mid ++ ids →
    ((us : List V) (v : V) → D t us v → (length us ≡ length ids) × L new × (us ≡ map read ids → v ≡ now new)) → made' ≡ mid ++ new ∷ [] → IsLeft D read K (old ++ t ∷ []) made r → IsLeft E now L old made' r
task_done D E read now K L grow known same old t made mid ids made' new r q f z w =
    let a : All K (mid ++ ids) = transport (All K) q w.known in
    let m : All K mid = All-front K mid ids a in
    let h = next D old t (map read made) r w.ends in
    let p = f h.1 h.2 h.4 in
    let e : map read mid ++ map read ids ≡ h.0 ++ h.1 = sym (ap (map read) q ∙ map-append read mid ids) ∙ h.3 in
    let s = tails_same (map read mid) h.0 (map read ids) h.1 (length-map ids read ∙ sym p.0) e in
    let v : h.2 ≡ now new = p.2 (sym s.1) in record {
      known = transport (All L) (sym z) (All-push L mid new (All-weaker K L known mid m) p.1);
      ends = transport (λ x. Ends E (reverse old) x r)
          ((λ i. sym s.0 i ++ v i ∷ []) ∙ ap (λ x. x ++ now new ∷ []) (sym (same_on K read now same mid m)) ∙ sym (map-append now mid (new ∷ [])) ∙ ap (map now) (sym z))
          (weaker D E grow (reverse old) (h.0 ++ h.2 ∷ []) r h.5);
    }

-- the task gives way to the tasks of its parts, and one behind them that takes what those make
pub task_opens : {T I V X : Type 0} (D : T → List V → V → Type 0) (read : I → V) (K : I → Type 0) (old new : List T) (t u : T) (made : List I) (r : V) (f : X → T) (g : X → V) (xs : List X) →
    reverse new ≡ map f xs ++ u ∷ reverse old → ((us : List V) (v : V) → D t us v → (us ≡ []) × All (λ x. D (f x) [] (g x)) xs × D u (map g xs) v) → IsLeft D read K (old ++ t ∷ []) made r → IsLeft D read K new made r
task_opens D read K old new t u made r f g xs q h w =
    let z = next D old t (map read made) r w.ends in
    let p = h z.1 z.2 z.4 in
    let e : z.0 ≡ map read made = sym (z.3 ∙ ap (λ l. z.0 ++ l) p.0 ∙ append-nil z.0) in record {
      known = w.known;
      ends = transport (λ l. Ends D l (map read made) r) (sym q)
          (each_first D f g xs p.1 (u ∷ reverse old) (map read made) r
          (map read made, map g xs, z.2, refl, p.2, transport (λ l. Ends D (reverse old) (l ++ z.2 ∷ []) r) e z.5));
    }

pub begins : {T I V : Type 0} (D : T → List V → V → Type 0) (read : I → V) (K : I → Type 0) (t : T) (tasks : List T) (made : List I) (r : V) → tasks ≡ t ∷ [] → made ≡ [] → D t [] r → IsLeft D read K tasks made r
begins D read K t tasks made r q e d = record {
  known = transport (All K) (sym e) (All-nil K);
  ends = transport (λ l. Ends D (reverse l) (map read made) r) (sym q) ([], [], r, ap (map read) e, d, ([], refl));
}

first_same : {V : Type 0} (x y : V) → x ∷ [] ≡ y ∷ [] → x ≡ y
first_same x y e = cc

pub finished : {T I V : Type 0} (D : T → List V → V → Type 0) (read : I → V) (K : I → Type 0) (tasks : List T) (made rest : List I) (i : I) (r : V) → tasks ≡ [] → made ≡ rest ++ i ∷ [] → IsLeft D read K tasks made r →
    K i × (read i ≡ r)
finished D read K tasks made rest i r q e w =
    let z = transport (λ l. Ends D (reverse l) (map read made) r) q w.ends in
    let s = tails_same (map read rest) z.0 (read i ∷ []) (r ∷ []) refl (sym (ap (map read) e ∙ map-append read rest (i ∷ [])) ∙ z.1) in
    (All-head K i [] (All-back K rest (i ∷ []) (transport (All K) e w.known)), first_same (read i) r s.1)
