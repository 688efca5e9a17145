-- An undeclared name of a text stands within as many nodes of the root as there are nodes: a way that comes back to a node may be cut there.
use Rattle.std.proofs.Common.{◌≡◌, ℕ, zero, suc, ◌-◌, ◌<◌, ◌≤◌, List, [], ◌∷◌, length, refl, sym, ap, subst, ◌∙◌, Bool, true, false, Option, Some, None, inl, inr, arith, true≢false}
use Rattle.std.specs.Prelude.{Contains, ◌⊎◌, ◌||◌, slice_get, nat_eq, if◌then◌else◌}
use Rattle.std.specs.Str.{bytes_eq}
use Rattle.std.proofs.lemmas.Bool.{eqb-true, eq-eqb}
use Rattle.lp_base.specs.declared.place.Spot.{Spot}
use Rattle.lp_syntax.specs.declared.text.RawNode.{RawNode}
use Rattle.lp_syntax.specs.declared.text.RawNode.TheVariants.{Name, Known, Number, Text, App, Abs}
use Rattle.lp_sig.specs.declared.signature.Signature.{Signature}
use Rattle.lp_sig.specs.Pieces.{spelled}
use Rattle.lp_infer.specs.Names.{note_words, IsNoConstant, IsNoKind}
use Rattle.lp_infer.specs.Scope.{binds, Undeclared, at_name, at_word, in_head, in_argument, in_body}
use Rattle.lp_infer.specs.inner.Rooms.{At, Within}

-- numbers on a list

abbrev On : List ℕ → ℕ → Type 0
On [] x = ⊥
On (y ∷ ys) x = (x ≡ y) ⊎ On ys x

abbrev AreOn : List ℕ → List ℕ → Type 0
AreOn xs ys = (x : ℕ) → On xs x → On ys x

abbrev without : ℕ → List ℕ → List ℕ
without x [] = []
without x (y ∷ ys) = if nat_eq x y then ys else y ∷ without x ys

first_less : (x : ℕ) (ys : List ℕ) → On ys x → suc (length (without x ys)) ≡ length ys
first_less x [] h = absurd h
first_less x (y ∷ ys) h = go (first_less x ys) (nat_eq x y) refl h where
  go : (On ys x → suc (length (without x ys)) ≡ length ys) → (t : Bool) → nat_eq x y ≡ t → (x ≡ y) ⊎ On ys x → suc (length (if t then ys else y ∷ without x ys)) ≡ suc (length ys)
  go less true e h = refl
  go less false e (inl f) = absurd (true≢false (sym (eq-eqb x y f) ∙ e))
  go less false e (inr h) = ap suc (less h)

still_on : (x : ℕ) (ys : List ℕ) (z : ℕ) → (z ≡ x → ⊥) → On ys z → On (without x ys) z
still_on x [] z apart h = h
still_on x (y ∷ ys) z apart h = go (still_on x ys z apart) (nat_eq x y) refl h where
  go : (On ys z → On (without x ys) z) → (t : Bool) → nat_eq x y ≡ t → (z ≡ y) ⊎ On ys z → On (if t then ys else y ∷ without x ys) z
  go still true e (inl f) = absurd (apart (f ∙ sym (eqb-true x y e)))
  go still true e (inr h) = h
  go still false e (inl f) = inl f
  go still false e (inr h) = inr (still h)

-- all numbers below n
abbrev up_to : ℕ → List ℕ
up_to zero = []
up_to (suc n) = n ∷ up_to n

many_up_to : (n : ℕ) → length (up_to n) ≡ n
many_up_to zero = refl
many_up_to (suc n) = ap suc (many_up_to n)

on_up_to : (n x : ℕ) → x < n → On (up_to n) x
on_up_to zero x h = absurd (omega (arith, h))
on_up_to (suc n) x h = go (on_up_to n x) (nat_eq x n) refl where
  below : (x ≡ n → ⊥) → x < n
  below apart = omega (arith, h, apart)

  go : (x < n → On (up_to n) x) → (t : Bool) → nat_eq x n ≡ t → (x ≡ n) ⊎ On (up_to n) x
  go on true e = inl (eqb-true x n e)
  go on false e = inr (on (below (λ f. true≢false (sym (eq-eqb x n f) ∙ e))))

some_below : {X : Type 0} (xs : List X) (n : ℕ) (x : X) → slice_get xs n ≡ Some x → n < length xs
some_below [] n x e = absurd (cc)
some_below (y ∷ ys) zero x e = omega arith
some_below (y ∷ ys) (suc n) x e = let h = some_below ys n x e in omega (arith, h)

-- fewer names are bound
abbrev Fewer : List (List ℕ) → List (List ℕ) → Type 0
Fewer scope c = (w : List ℕ) → binds c w ≡ false → binds scope w ≡ false

fewer_inside : (scope c : List (List ℕ)) (x : List ℕ) → Fewer scope c → Fewer (x ∷ scope) (x ∷ c)
fewer_inside scope c x f w = go (bytes_eq w x) where
  go : (t : Bool) → (t || binds c w) ≡ false → (t || binds scope w) ≡ false
  go true e = e
  go false e = f w e

fewer_outside : (scope c : List (List ℕ)) (x : List ℕ) → Fewer scope c → Fewer scope (x ∷ c)
fewer_outside scope c x f w = go (bytes_eq w x) where
  go : (t : Bool) → (t || binds c w) ≡ false → binds scope w ≡ false
  go true e = absurd (true≢false e)
  go false e = f w e

module _ (sig : Signature) (text : List ℕ) (nodes : List RawNode) (s : Spot) where
  -- an undeclared name at a node itself, and the parts of a node with the names that are bound there
  abbrev Here : List (List ℕ) → Option RawNode → Type 0
  Here scope (Some (Name t)) = (s ≡ t) × (binds scope (spelled text t) ≡ false) × IsNoConstant sig (spelled text t)
  Here scope (Some (Abs x given b)) = Contains (note_words given) s × IsNoKind sig (spelled text s)
  Here scope _ = ⊥

  abbrev Part : List (List ℕ) → Option RawNode → List (List ℕ) → ℕ → Type 0
  Part scope (Some (App f a)) d m = (d ≡ scope) × ((m ≡ f) ⊎ (m ≡ a))
  Part scope (Some (Abs x given b)) d m = (d ≡ spelled text x ∷ scope) × (m ≡ b)
  Part scope _ d m = ⊥

  -- these are the nodes of a way to the name
  abbrev Leads : List ℕ → List (List ℕ) → ℕ → Type 0
  Leads [] scope n = ⊥
  Leads (p ∷ path) scope n = (p ≡ n) × (Here scope (slice_get nodes n) ⊎ ((d : List (List ℕ)) × (m : ℕ) × (Part scope (slice_get nodes n) d m × Leads path d m)))

  here_fewer : (scope c : List (List ℕ)) → Fewer scope c → (o : Option RawNode) → Here c o → Here scope o
  here_fewer scope c f None h = h
  here_fewer scope c f (Some (Name t)) h = (h.0, f (spelled text t) h.1, h.2)
  here_fewer scope c f (Some (Known k t)) h = h
  here_fewer scope c f (Some (Number z t)) h = h
  here_fewer scope c f (Some (Text t)) h = h
  here_fewer scope c f (Some (App g a)) h = h
  here_fewer scope c f (Some (Abs x given b)) h = h

  part_fewer : (scope c d : List (List ℕ)) (m : ℕ) → Fewer scope c → (o : Option RawNode) → Part c o d m → (e : List (List ℕ)) × (Part scope o e m × Fewer e d)
  part_fewer scope c d m f None h = absurd h
  part_fewer scope c d m f (Some (Name t)) h = absurd h
  part_fewer scope c d m f (Some (Known k t)) h = absurd h
  part_fewer scope c d m f (Some (Number z t)) h = absurd h
  part_fewer scope c d m f (Some (Text t)) h = absurd h
  part_fewer scope c d m f (Some (App g a)) h = (scope, ((refl, h.1), subst (Fewer scope) (sym h.0) f))
  part_fewer scope c d m f (Some (Abs x given b)) h = (spelled text x ∷ scope, ((refl, h.1), subst (Fewer (spelled text x ∷ scope)) (sym h.0) (fewer_inside scope c (spelled text x) f)))

  part_outside : (scope c d : List (List ℕ)) (m : ℕ) → Fewer scope c → (o : Option RawNode) → Part c o d m → Fewer scope d
  part_outside scope c d m f None h = absurd h
  part_outside scope c d m f (Some (Name t)) h = absurd h
  part_outside scope c d m f (Some (Known k t)) h = absurd h
  part_outside scope c d m f (Some (Number z t)) h = absurd h
  part_outside scope c d m f (Some (Text t)) h = absurd h
  part_outside scope c d m f (Some (App g a)) h = subst (Fewer scope) (sym h.0) f
  part_outside scope c d m f (Some (Abs x given b)) h = subst (Fewer scope) (sym h.0) (fewer_outside scope c (spelled text x) f)

  leads_fewer : (path : List ℕ) (scope c : List (List ℕ)) (n : ℕ) → Fewer scope c → Leads path c n → Leads path scope n
  leads_fewer [] scope c n f h = h
  leads_fewer (p ∷ path) scope c n f (e, inl h) = (e, inl (here_fewer scope c f (slice_get nodes n) h))
  leads_fewer (p ∷ path) scope c n f (e, inr (d, m, (part, h))) =
      let q = part_fewer scope c d m f (slice_get nodes n) part in
      (e, inr (q.0, m, (q.1.0, leads_fewer path q.0 d m q.1.1 h)))

  -- a way from the last place of n on, or one that does not pass n
  record Last (n : ℕ) (path : List ℕ) (scope : List (List ℕ)) : Type 0 where
    rest : List ℕ
    leads : Leads (n ∷ rest) scope n
    avoids : On rest n → ⊥
    within : AreOn rest path

  record Past (n : ℕ) (path : List ℕ) (c : List (List ℕ)) (m : ℕ) : Type 0 where
    way : List ℕ
    leads : Leads way c m
    avoids : On way n → ⊥
    within : AreOn way path

  last : (n : ℕ) (path : List ℕ) (scope c : List (List ℕ)) (m : ℕ) → Fewer scope c → Leads path c m → Last n path scope ⊎ Past n path c m
  last n [] scope c m f h = absurd h
  last n (p ∷ path) scope c m f (e, inl h) = go (nat_eq m n) refl where
    go : (t : Bool) → nat_eq m n ≡ t → Last n (p ∷ path) scope ⊎ Past n (p ∷ path) c m
    go true g = inl (record {
      rest = [];
      leads = subst (λ k. Leads (k ∷ []) scope k) (eqb-true m n g) (refl, inl (here_fewer scope c f (slice_get nodes m) h));
      avoids = λ o. o;
      within = λ x o. absurd o;
    })
    go false g = inr (record { way = m ∷ []; leads = (refl, inl h); avoids = alone; within = λ x o. inl (one x o ∙ sym e) }) where
      one : (x : ℕ) → (x ≡ m) ⊎ ⊥ → x ≡ m
      one x (inl k) = k
      one x (inr k) = absurd k

      alone : (n ≡ m) ⊎ ⊥ → ⊥
      alone (inl k) = true≢false (sym (eq-eqb m n (sym k)) ∙ g)
      alone (inr k) = k
  last n (p ∷ path) scope c m f (e, inr (d, k, (part, h))) = by (last n path scope d k (part_outside scope c d k f (slice_get nodes m) part) h) where
    by : Last n path scope ⊎ Past n path d k → Last n (p ∷ path) scope ⊎ Past n (p ∷ path) c m
    by (inl r) = inl (record { rest = r.rest; leads = r.leads; avoids = r.avoids; within = λ x o. inr (r.within x o) })
    by (inr r) = go (nat_eq m n) refl where
      q : (e : List (List ℕ)) × (Part scope (slice_get nodes m) e k × Fewer e d)
      q = part_fewer scope c d k f (slice_get nodes m) part

      go : (t : Bool) → nat_eq m n ≡ t → Last n (p ∷ path) scope ⊎ Past n (p ∷ path) c m
      go true g = inl (record {
        rest = r.way;
        leads = subst (λ j. Leads (j ∷ r.way) scope j) (eqb-true m n g) (refl, inr (q.0, k, (q.1.0, leads_fewer r.way q.0 d k q.1.1 r.leads)));
        avoids = r.avoids;
        within = λ x o. inr (r.within x o);
      })
      go false g = inr (record { way = m ∷ r.way; leads = (refl, inr (d, k, (part, r.leads))); avoids = apart; within = stays }) where
        apart : (n ≡ m) ⊎ On r.way n → ⊥
        apart (inl j) = true≢false (sym (eq-eqb m n (sym j)) ∙ g)
        apart (inr o) = r.avoids o

        stays : (x : ℕ) → (x ≡ m) ⊎ On r.way x → (x ≡ p) ⊎ On path x
        stays x (inl j) = inl (j ∙ sym e)
        stays x (inr o) = inr (r.within x o)

  -- a way is one within as many nodes
  here_at : (below : List (List ℕ) → ℕ → Spot → Type 0) (scope : List (List ℕ)) (o : Option RawNode) → Here scope o → At sig text below scope o s
  here_at below scope None h = h
  here_at below scope (Some (Name t)) h = h
  here_at below scope (Some (Known k t)) h = h
  here_at below scope (Some (Number z t)) h = h
  here_at below scope (Some (Text t)) h = h
  here_at below scope (Some (App g a)) h = absurd h
  here_at below scope (Some (Abs x given b)) h = inl h

  part_at : (below : List (List ℕ) → ℕ → Spot → Type 0) (scope d : List (List ℕ)) (m : ℕ) (o : Option RawNode) → Part scope o d m → below d m s → At sig text below scope o s
  part_at below scope d m None h b = h
  part_at below scope d m (Some (Name t)) h b = absurd h
  part_at below scope d m (Some (Known k t)) h b = h
  part_at below scope d m (Some (Number z t)) h b = h
  part_at below scope d m (Some (Text t)) h b = h
  part_at below scope d m (Some (App g a)) (e, inl f) b = inl (subst (λ c. below c g s) e (subst (λ n. below d n s) f b))
  part_at below scope d m (Some (App g a)) (e, inr f) b = inr (subst (λ c. below c a s) e (subst (λ n. below d n s) f b))
  part_at below scope d m (Some (Abs x given y)) h b = inr (subst (λ c. below c y s) h.0 (subst (λ n. below d n s) h.1 b))

  shorten : (k : ℕ) (free path : List ℕ) (scope : List (List ℕ)) (n : ℕ) → length free ≤ k → AreOn path free → Leads path scope n → Within sig text nodes k scope n s
  shorten k free [] scope n few all h = absurd h
  shorten zero free (p ∷ path) scope n few all h = none free few (all p (inl refl)) where
    none : (free : List ℕ) → length free ≤ 0 → On free p → ⊥
    none [] l o = o
    none (x ∷ xs) l o = omega (arith, l)
  shorten (suc k) free (p ∷ path) scope n few all h = by (λ rest d m a l. shorten k (without n free) rest d m fewer a l) (last n (p ∷ path) scope scope n (λ w e. e) h) where
    on : On free n
    on = subst (On free) h.0 (all p (inl refl))

    left : (rest : List ℕ) → (On rest n → ⊥) → AreOn rest (p ∷ path) → AreOn rest (without n free)
    left rest avoids within x o = still_on n free x (λ e. avoids (subst (On rest) e o)) (all x (within x o))

    fewer : length (without n free) ≤ k
    fewer = let e = first_less n free on in omega (arith, e, few)

    go : ((rest : List ℕ) (d : List (List ℕ)) (m : ℕ) → AreOn rest (without n free) → Leads rest d m → Within sig text nodes k d m s) → (rest : List ℕ) → (On rest n → ⊥) → AreOn rest (p ∷ path) → Here scope (slice_get nodes n) ⊎ ((d : List (List ℕ)) × (m : ℕ) × (Part scope (slice_get nodes n) d m × Leads rest d m)) → At sig text (Within sig text nodes k) scope (slice_get nodes n) s
    go run rest avoids within (inl h) = here_at (Within sig text nodes k) scope (slice_get nodes n) h
    go run rest avoids within (inr (d, m, (part, h))) = part_at (Within sig text nodes k) scope d m (slice_get nodes n) part (run rest d m (left rest avoids within) h)

    met : (way : List ℕ) → Leads way scope n → (On way n → ⊥) → ⊥
    met [] h avoids = h
    met (q ∷ way) h avoids = avoids (inl (sym h.0))

    by : ((rest : List ℕ) (d : List (List ℕ)) (m : ℕ) → AreOn rest (without n free) → Leads rest d m → Within sig text nodes k d m s) → Last n (p ∷ path) scope ⊎ Past n (p ∷ path) scope n → At sig text (Within sig text nodes k) scope (slice_get nodes n) s
    by run (inl r) = go run r.rest r.avoids r.within r.leads.1
    by run (inr r) = absurd (met r.way r.leads r.avoids)

  -- a way to each undeclared name, over nodes of the text
  record Way (scope : List (List ℕ)) (n : ℕ) : Type 0 where
    way : List ℕ
    leads : Leads way scope n
    known : AreOn way (up_to (length nodes))

  begins : (scope : List (List ℕ)) (n : ℕ) (node : RawNode) → slice_get nodes n ≡ Some node → Here scope (Some node) → Way scope n
  begins scope n node e h = record { way = n ∷ []; leads = (refl, inl (subst (Here scope) (sym e) h)); known = λ x o. on x o } where
    on : (x : ℕ) → (x ≡ n) ⊎ ⊥ → On (up_to (length nodes)) x
    on x (inl f) = subst (On (up_to (length nodes))) (sym f) (on_up_to (length nodes) n (some_below nodes n node e))
    on x (inr f) = absurd f

  goes_on : (scope d : List (List ℕ)) (n m : ℕ) (node : RawNode) → slice_get nodes n ≡ Some node → Part scope (Some node) d m → Way d m → Way scope n
  goes_on scope d n m node e part w = record { way = n ∷ w.way; leads = (refl, inr (d, m, (subst (λ o. Part scope o d m) (sym e) part, w.leads))); known = λ x o. on x o } where
    on : (x : ℕ) → (x ≡ n) ⊎ On w.way x → On (up_to (length nodes)) x
    on x (inl f) = subst (On (up_to (length nodes))) (sym f) (on_up_to (length nodes) n (some_below nodes n node e))
    on x (inr o) = w.known x o

  way_to : {scope : List (List ℕ)} {n : ℕ} → Undeclared sig text nodes scope n s → Way scope n
  way_to {scope} {n} (at_name {s = t} e b k) = begins scope n (Name t) e (refl, b, k)
  way_to {scope} {n} (at_word {x = x} {note = given} {b = b} e c k) = begins scope n (Abs x given b) e (c, k)
  way_to {scope} {n} (in_head {f = f} {a = a} e u) = goes_on scope scope n f (App f a) e (refl, inl refl) (way_to u)
  way_to {scope} {n} (in_argument {f = f} {a = a} e u) = goes_on scope scope n a (App f a) e (refl, inr refl) (way_to u)
  way_to {scope} {n} (in_body {x = x} {note = given} {b = b} e u) = goes_on scope (spelled text x ∷ scope) n b (Abs x given b) e (refl, refl) (way_to u)

  pub undeclared_within : (root : ℕ) → Undeclared sig text nodes [] root s → Within sig text nodes (length nodes) [] root s
  undeclared_within root u =
      let w = way_to u in
      shorten (length nodes) (up_to (length nodes)) w.way [] root (let e = many_up_to (length nodes) in omega (arith, e)) w.known w.leads

  at_undeclared : (k : ℕ) → ((scope : List (List ℕ)) (n : ℕ) → Within sig text nodes k scope n s → Undeclared sig text nodes scope n s) → (scope : List (List ℕ)) (n : ℕ) (o : Option RawNode) → slice_get nodes n ≡ o → At sig text (Within sig text nodes k) scope o s → Undeclared sig text nodes scope n s
  at_undeclared k below scope n None e h = absurd h
  at_undeclared k below scope n (Some (Name t)) e h = at_name (e ∙ ap (λ x. Some (Name x)) (sym h.0)) (subst (λ x. binds scope (spelled text x) ≡ false) (sym h.0) h.1) (subst (λ x. IsNoConstant sig (spelled text x)) (sym h.0) h.2)
  at_undeclared k below scope n (Some (Known j t)) e h = absurd h
  at_undeclared k below scope n (Some (Number z t)) e h = absurd h
  at_undeclared k below scope n (Some (Text t)) e h = absurd h
  at_undeclared k below scope n (Some (App f a)) e (inl h) = in_head e (below scope f h)
  at_undeclared k below scope n (Some (App f a)) e (inr h) = in_argument e (below scope a h)
  at_undeclared k below scope n (Some (Abs x given b)) e (inl h) = at_word e h.0 h.1
  at_undeclared k below scope n (Some (Abs x given b)) e (inr h) = in_body e (below (spelled text x ∷ scope) b h)

  pub within_undeclared : (k : ℕ) (scope : List (List ℕ)) (n : ℕ) → Within sig text nodes k scope n s → Undeclared sig text nodes scope n s
  within_undeclared zero scope n h = absurd h
  within_undeclared (suc k) scope n h = at_undeclared k (within_undeclared k) scope n (slice_get nodes n) refl h
