-- The moves on the way to an eta-normal form.
use Rattle.std.proofs.Common.{◌≡◌, ℕ, ◌+◌, ◌*◌, ◌<◌, ◌≤◌, ◌≢◌, List, [], ◌∷◌, ◌++◌, length, map, reverse, refl, sym, ap, ◌∙◌, subst as transport, arith, Bool, true, false, Vec, Global, length-append}
use Rattle.std.specs.Prelude.{All}
use Rattle.std.proofs.lemmas.List.{reverse-append}
use Rattle.std.proofs.lemmas.List.Elements.{All-push, All-weaker, All-nil, All-head, All-tail, All-cons}
use Rattle.lp_calculus.specs.Term.{Term, index, atom, abs, app, apply}
use Rattle.lp_calculus.specs.Normal.{eta_normal, nodes}
use Rattle.lp_term.specs.Nodes.{Nodes, tree, Extends}
use Rattle.lp_term.specs.Walk.{trees, size, sizes}
use Rattle.lp_term.specs.Frame.{in_order}
use Rattle.lp_term.specs.Opened.{joined, formed, HasParts, IsOpened, IsWaiting, Awaits, IsForm, IsNext, work, all_work}
use Rattle.lp_term.specs.declared.node.TermId.{TermId}
use Rattle.lp_term.specs.declared.form.Opened.{Opened}
use Rattle.lp_term.specs.declared.form.Form.{Form}
use Rattle.lp_term.specs.declared.form.Move.TheVariants.{On, Done}
use Rattle.lp_term.proofs.Walks.{trees-push, trees-append, trees_stay, All-front, All-back, map_map}
use Rattle.std.specs.List.{IsAmong}
use Rattle.lp_term.proofs.Ways.{in_order_stay, among}

nodes_some : (t : Term) → 0 < nodes t
nodes_some (index i) = omega arith
nodes_some (atom a) = omega arith
nodes_some (abs b) = omega arith
nodes_some (app t u) = omega (arith, nodes_some t)

size_some : (t : Term) → 0 < size t
size_some (index i) = omega arith
size_some (atom a) = omega arith
size_some (abs b) = omega arith
size_some (app t u) = omega arith

pub leaf_form : (t : Term) → nodes t ≤ 1 → t ≡ eta_normal t
leaf_form (index i) l = refl
leaf_form (atom a) l = refl
leaf_form (abs b) l = absurd (omega (arith, nodes_some b))
leaf_form (app t u) l = absurd (omega (arith, nodes_some t, nodes_some u))

eta_apply : (h : Term) (xs : List Term) → eta_normal (apply h xs) ≡ apply (eta_normal h) (map eta_normal xs)
eta_apply h [] = refl
eta_apply h (x ∷ xs) = eta_apply (app h x) xs

-- sizes
sizes_append : (b : Nodes) (xs ys : List TermId) → sizes b (xs ++ ys) ≡ sizes b xs + sizes b ys
sizes_append b [] ys = omega arith
sizes_append b (x ∷ xs) ys = omega (arith, sizes_append b xs ys)

sizes_reverse : (b : Nodes) (xs : List TermId) → sizes b (reverse xs) ≡ sizes b xs
sizes_reverse b [] = refl
sizes_reverse b (x ∷ xs) = omega (arith, ap (sizes b) (reverse-append (x ∷ []) xs), sizes_append b (reverse xs) (x ∷ []), sizes_reverse b xs)

sizes_apply : (b : Nodes) (h : Term) (ts : List TermId) → sizes b ts + length ts + size h ≡ size (apply h (in_order b ts))
sizes_apply b h [] = omega arith
sizes_apply b h (t ∷ ts) = omega (arith, sizes_apply b (app h (tree b t.0)) ts)

-- a term is opened
abbrev pub an_opened : TermId → Bool → Bool → Vec TermId Global → Vec TermId Global → Opened
an_opened id a c d l = record { id = id; abstraction = a; changed = c; done = d; left = l }

pub one : {X : Type 0} (P : X → Type 0) (xs : List X) (x : X) → xs ≡ x ∷ [] → P x → All P xs
one P xs x q h = transport (All P) (sym q) (All-cons P x [] h (All-nil P))

pub none : {X : Type 0} (P : X → Type 0) (xs : List X) → xs ≡ [] → All P xs
none P xs q = transport (All P) (sym q) (All-nil P)

pub opened_abs : (b : Nodes) (id body : TermId) (done left : Vec TermId Global) → done.items ≡ [] → left.items ≡ body ∷ [] → id.0 < length b.terms → abs (tree b body.0) ≡ tree b id.0 → body.0 < id.0 →
    IsOpened b (an_opened id true false done left) × (work b (an_opened id true false done left) < 2 * size (tree b id.0))
opened_abs b id body done left d l i e k = (
  record {
    id = i;
    done = none (λ t. t.0 < length b.terms) done.items d;
    left = one (λ t. t.0 < length b.terms) left.items body l (omega arith);
    some = omega (arith, ap length l);
    form = ap eta_normal (sym e) ∙ (λ j. formed true (in_order b (sym d j) ++ map eta_normal (trees b (sym l j))));
    same = λ z. sym e ∙ (λ j. joined true (in_order b (sym d j) ++ trees b (sym l j)));
  },
  omega (arith, ap (sizes b) l, ap size e),
)

pub trees_args : (b : Nodes) (head : TermId) (args : List TermId) → trees b (reverse args ++ head ∷ []) ≡ tree b head.0 ∷ in_order b args
trees_args b head args = trees-push b (reverse args) head ∙ ap (λ l. tree b head.0 ∷ l) (trees-append b [] args ∙ nil (in_order b args))
  where
    nil : (xs : List Term) → xs ++ [] ≡ xs
    nil [] = refl
    nil (x ∷ xs) = ap (λ l. x ∷ l) (nil xs)

unmapped : (n : ℕ) (ids : List TermId) → All (λ i. i < n) (map (λ t. t.0) ids) → All (λ t. t.0 < n) ids
unmapped n [] a = All-nil (λ t. t.0 < n)
unmapped n (i ∷ ids) a = All-cons (λ t. t.0 < n) i ids (All-head (λ j. j < n) i.0 (map (λ t. t.0) ids) a) (unmapped n ids (All-tail (λ j. j < n) i.0 (map (λ t. t.0) ids) a))

pub all_reverse : {X : Type 0} (P : X → Type 0) (xs : List X) → All P xs → All P (reverse xs)
all_reverse P [] a = a
all_reverse P (x ∷ xs) a = rw (reverse-append (x ∷ []) xs) (All-push P (reverse xs) x (all_reverse P xs (All-tail P x xs a)) (All-head P x xs a))

pub both_pushed : (none args reversed left : List TermId) (head : TermId) → none ≡ [] → reversed ≡ none ++ reverse args → left ≡ reversed ++ head ∷ [] → left ≡ reverse args ++ head ∷ []
both_pushed none args reversed left head e q r = r ∙ ap (λ l. l ++ head ∷ []) (q ∙ ap (λ l. l ++ reverse args) e)

pub some : (ids : List TermId) → map (λ t. t.0) ids ≢ [] → 0 < length ids
some [] n = absurd (n refl)
some (t ∷ ts) n = omega arith

pub opened_app : (b : Nodes) (id head : TermId) (args : List TermId) (done left : Vec TermId Global) → done.items ≡ [] → left.items ≡ reverse args ++ head ∷ [] → id.0 < length b.terms →
    apply (tree b head.0) (map (tree b) (map (λ t. t.0) args)) ≡ tree b id.0 → head.0 < id.0 → All (λ i. i < id.0) (map (λ t. t.0) args) → map (λ t. t.0) args ≢ [] →
    IsOpened b (an_opened id false false done left) × (work b (an_opened id false false done left) < 2 * size (tree b id.0))
opened_app b id head args done left d l i g h a s =
    let n : 0 < length args = some args s in
    let e : apply (tree b head.0) (in_order b args) ≡ tree b id.0 = ap (apply (tree b head.0)) (sym (map_map (tree b) (λ t. t.0) args)) ∙ g in
    let parts : All (λ t. t.0 < length b.terms) args = All-weaker (λ t. t.0 < id.0) (λ t. t.0 < length b.terms) (λ t g. omega arith) args (unmapped id.0 args a) in
    let q : trees b left.items ≡ tree b head.0 ∷ in_order b args = ap (trees b) l ∙ trees_args b head args in (
      record {
        id = i;
        done = none (λ t. t.0 < length b.terms) done.items d;
        left = transport (All (λ t. t.0 < length b.terms)) (sym l) (All-push (λ t. t.0 < length b.terms) (reverse args) head (all_reverse (λ t. t.0 < length b.terms) args parts) (omega arith));
        some = omega (arith, ap length l, length-append (reverse args) (head ∷ []));
        form = ap eta_normal (sym e) ∙ eta_apply (tree b head.0) (in_order b args) ∙ (λ j. formed false (in_order b (sym d j) ++ map eta_normal (sym q j)));
        same = λ z. sym e ∙ (λ j. joined false (in_order b (sym d j) ++ sym q j));
      },
      omega (arith, ap (sizes b) l, sizes_append b (reverse args) (head ∷ []), sizes_reverse b args, sizes_apply b (tree b head.0) args, ap size e),
    )

pub opened_leaf : (b : Nodes) (id : TermId) (done left : Vec TermId Global) → done.items ≡ id ∷ [] → left.items ≡ [] → id.0 < length b.terms → eta_normal (tree b id.0) ≡ tree b id.0 →
    IsOpened b (an_opened id false false done left) × (work b (an_opened id false false done left) < 2 * size (tree b id.0))
opened_leaf b id done left d l i e = (
  record {
    id = i;
    done = one (λ t. t.0 < length b.terms) done.items id d i;
    left = none (λ t. t.0 < length b.terms) left.items l;
    some = omega (arith, ap length d);
    form = e ∙ (λ j. formed false (in_order b (sym d j) ++ map eta_normal (trees b (sym l j))));
    same = λ z. (λ j. joined false (in_order b (sym d j) ++ trees b (sym l j)));
  },
  omega (arith, ap (sizes b) l, size_some (tree b id.0)),
)

-- a part has its form
pub in_order_push : (b : Nodes) (ds : List TermId) (t : TermId) (k : List Term) → in_order b (ds ++ t ∷ []) ++ k ≡ in_order b ds ++ tree b t.0 ∷ k
in_order_push b [] t k = refl
in_order_push b (d ∷ ds) t k = ap (λ l. tree b d.0 ∷ l) (in_order_push b ds t k)

pub taken : (b : Nodes) (f : Opened) (part made : TermId) (changed : Bool) (v : Vec TermId Global) → v.items ≡ f.done.items ++ made ∷ [] → (changed ≡ false → (made.0 ≡ part.0) × (f.changed ≡ false)) →
    IsWaiting b f part → made.0 < length b.terms → tree b made.0 ≡ eta_normal (tree b part.0) → IsOpened b (an_opened f.id f.abstraction changed v f.left)
taken b f part made changed v q c w m e = record {
  id = w.id;
  done = transport (All (λ t. t.0 < length b.terms)) (sym q) (All-push (λ t. t.0 < length b.terms) f.done.items made w.done m);
  left = All-front (λ t. t.0 < length b.terms) f.left.items (part ∷ []) w.left;
  some = omega (arith, ap length q, length-append f.done.items (made ∷ []));
  form =
      w.form ∙
      ap (λ l. formed f.abstraction (in_order b f.done.items ++ map eta_normal l)) (trees-push b f.left.items part) ∙
      ap (λ t. formed f.abstraction (in_order b f.done.items ++ t ∷ map eta_normal (trees b f.left.items))) (sym e) ∙
      ap (formed f.abstraction) (sym (in_order_push b f.done.items made (map eta_normal (trees b f.left.items)))) ∙
      ap (λ l. formed f.abstraction (in_order b l ++ map eta_normal (trees b f.left.items))) (sym q);
  same = λ z.
      let k = c z in
      w.same k.1 ∙
      ap (λ l. joined f.abstraction (in_order b f.done.items ++ l)) (trees-push b f.left.items part) ∙
      ap (λ n. joined f.abstraction (in_order b f.done.items ++ tree b n ∷ trees b f.left.items)) (sym k.0) ∙
      ap (joined f.abstraction) (sym (in_order_push b f.done.items made (trees b f.left.items))) ∙
      ap (λ l. joined f.abstraction (in_order b l ++ trees b f.left.items)) (sym q);
}

-- more nodes change nothing
parts_stay : (b c : Nodes) → Extends b c → (f : Opened) (left : List TermId) → HasParts b f left → HasParts c f left
parts_stay b c x f left h = record {
  id = omega (arith, h.id, x.more_terms);
  done = All-weaker (λ t. t.0 < length b.terms) (λ t. t.0 < length c.terms) (λ t g. omega (arith, x.more_terms)) f.done.items h.done;
  left = All-weaker (λ t. t.0 < length b.terms) (λ t. t.0 < length c.terms) (λ t g. omega (arith, x.more_terms)) left h.left;
  some = h.some;
  form =
      ap eta_normal (x.same_terms f.id.0 h.id) ∙ h.form ∙
      (λ j. formed f.abstraction (sym (in_order_stay b c f.done.items x h.done) j ++ map eta_normal (sym (trees_stay b c left x h.left) j)));
  same = λ z. x.same_terms f.id.0 h.id ∙ h.same z ∙ (λ j. joined f.abstraction (sym (in_order_stay b c f.done.items x h.done) j ++ sym (trees_stay b c left x h.left) j));
}

awaits_stay : (b c : Nodes) → Extends b c → (root : TermId) (fs : List Opened) (t : TermId) → Awaits b root fs t → Awaits c root fs t
awaits_stay b c x root [] t a = a
awaits_stay b c x root (f ∷ fs) t a = (a.0, a.1, parts_stay b c x f (f.left.items ++ a.1 ∷ []) a.2, awaits_stay b c x a.1 fs t a.3)

sizes_stay : (b c : Nodes) → Extends b c → (ts : List TermId) → All (λ t. t.0 < length b.terms) ts → sizes c ts ≡ sizes b ts
sizes_stay b c x [] a = refl
sizes_stay b c x (t ∷ ts) a = λ j. size (x.same_terms t.0 (a 0 t (omega arith)) j) + sizes_stay b c x ts (All-tail (λ t. t.0 < length b.terms) t ts a) j

work_stays : (b c : Nodes) → Extends b c → (f : Opened) (t : TermId) → IsWaiting b f t → work c f ≡ work b f
work_stays b c x f t h = ap (λ n. 1 + 2 * n) (sizes_stay b c x f.left.items (All-front (λ t. t.0 < length b.terms) f.left.items (t ∷ []) h.left))

all_work_stays : (b c : Nodes) → Extends b c → (root : TermId) (fs : List Opened) (t : TermId) → Awaits b root fs t → all_work c fs ≡ all_work b fs
all_work_stays b c x root [] t a = refl
all_work_stays b c x root (f ∷ fs) t a = λ j. work_stays b c x f a.1 a.2 j + all_work_stays b c x a.1 fs t a.3 j

-- the innermost of those that wait
awaits_last : (b : Nodes) (root : TermId) (fs : List Opened) (f : Opened) (t : TermId) → Awaits b root (fs ++ f ∷ []) t → Awaits b root fs f.id × IsWaiting b f t
awaits_last b root [] f t a = (sym a.0, transport (IsWaiting b f) a.3 a.2)
awaits_last b root (g ∷ fs) f t a = let k = awaits_last b a.1 fs f t a.3 in ((a.0, a.1, a.2, k.0), k.1)

awaits_more : (b : Nodes) (root : TermId) (fs : List Opened) (f : Opened) (t : TermId) → Awaits b root fs f.id → IsWaiting b f t → Awaits b root (fs ++ f ∷ []) t
awaits_more b root [] f t a w = (sym a, t, w, refl)
awaits_more b root (g ∷ fs) f t a w = (a.0, a.1, a.2, awaits_more b a.1 fs f t a.3 w)

all_work_append : (b : Nodes) (fs gs : List Opened) → all_work b (fs ++ gs) ≡ all_work b fs + all_work b gs
all_work_append b [] gs = omega arith
all_work_append b (f ∷ fs) gs = omega (arith, all_work_append b fs gs)

-- a closed term is a part of the one that waits for it
pub went_out : (b c : Nodes) → Extends b c → (root : TermId) (ws gs : List Opened) (f outer next : Opened) (made : TermId) → ws ≡ gs ++ outer ∷ [] → Awaits b root ws f.id → made.0 < length c.terms →
    tree c made.0 ≡ eta_normal (tree b f.id.0) → f.id.0 < length b.terms → next.id ≡ outer.id → next.left ≡ outer.left →
    ((d : Nodes) → IsWaiting d outer f.id → made.0 < length d.terms → tree d made.0 ≡ eta_normal (tree d f.id.0) → IsOpened d next) →
    IsNext c root (all_work b ws + work b f) gs (On next)
went_out b c x root ws gs f outer next made q a m e i p l h =
    let k = awaits_last b root gs outer f.id (transport (λ l. Awaits b root l f.id) q a) in (
      h c (parts_stay b c x outer (outer.left.items ++ f.id ∷ []) k.1) m (e ∙ ap eta_normal (sym (x.same_terms f.id.0 i))),
      transport (Awaits c root gs) (sym p) (awaits_stay b c x root gs outer.id k.0),
      omega (arith, ap (all_work b) q, all_work_append b gs (outer ∷ []), all_work_stays b c x root gs outer.id k.0, work_stays b c x outer f.id k.1, ap (λ v. sizes c v.items) l),
    )

pub ended : (b c : Nodes) → Extends b c → (root : TermId) (ws gs : List Opened) (f : Opened) (made : TermId) (n : ℕ) → ws ≡ [] → Awaits b root ws f.id → made.0 < length c.terms →
    tree c made.0 ≡ eta_normal (tree b f.id.0) → f.id.0 < length b.terms → IsNext c root n gs (Done made)
ended b c x root ws gs f made n q a m e i =
    let r : root ≡ f.id = transport (λ l. Awaits b root l f.id) q a in
    (m, e ∙ ap eta_normal (sym (x.same_terms f.id.0 i) ∙ ap (λ t. tree c t.0) (sym r)))

-- the next part of an open term
abbrev pub with_left : Opened → Vec TermId Global → Opened
with_left f v = an_opened f.id f.abstraction f.changed f.done v

pub waits : (b : Nodes) (f : Opened) (v : Vec TermId Global) (part : TermId) → f.left.items ≡ v.items ++ part ∷ [] → IsOpened b f → IsWaiting b (with_left f v) part
waits b f v part q h = let k = transport (HasParts b f) q h in record { id = k.id; done = k.done; left = k.left; some = k.some; form = k.form; same = k.same }

pub part_within : (b : Nodes) (f : Opened) (v : Vec TermId Global) (part : TermId) → f.left.items ≡ v.items ++ part ∷ [] → IsOpened b f → part.0 < length b.terms
part_within b f v part q h = All-head (λ t. t.0 < length b.terms) part [] (All-back (λ t. t.0 < length b.terms) v.items (part ∷ []) (transport (All (λ t. t.0 < length b.terms)) q h.left))

pub found : (b : Nodes) (root : TermId) (ws : List Opened) (f next : Opened) (v : Vec TermId Global) (part : TermId) → f.left.items ≡ v.items ++ part ∷ [] → Awaits b root ws f.id →
    next.id ≡ f.id → next.left ≡ v → IsOpened b next → IsNext b root (all_work b ws + work b f) ws (On next)
found b root ws f next v part q a p l h = (
  h,
  transport (Awaits b root ws) (sym p) a,
  omega (arith, ap (sizes b) q, sizes_append b v.items (part ∷ []), ap (λ v. sizes b v.items) l, size_some (tree b part.0)),
)

pub went_in : (b : Nodes) (root : TermId) (ws gs : List Opened) (f inner : Opened) (v : Vec TermId Global) (part : TermId) → f.left.items ≡ v.items ++ part ∷ [] → IsOpened b f → Awaits b root ws f.id →
    gs ≡ ws ++ with_left f v ∷ [] → inner.id ≡ part → IsOpened b inner → work b inner < 2 * size (tree b part.0) → IsNext b root (all_work b ws + work b f) gs (On inner)
went_in b root ws gs f inner v part q h a g p i l = (
  i,
  transport (λ l. Awaits b root l inner.id) (sym g) (transport (Awaits b root (ws ++ with_left f v ∷ [])) (sym p) (awaits_more b root ws (with_left f v) part a (waits b f v part q h))),
  omega (arith, ap (sizes b) q, sizes_append b v.items (part ∷ []), ap (all_work b) g, all_work_append b ws (with_left f v ∷ []), l),
)

-- forms that are kept
pub form_stays : (b c : Nodes) → Extends b c → (f : Form) → IsForm b f → IsForm c f
form_stays b c x f i = record {
  id = omega (arith, i.id, x.more_terms);
  made = omega (arith, i.made, x.more_terms);
  same = x.same_terms f.made.0 i.made ∙ i.same ∙ ap eta_normal (sym (x.same_terms f.id.0 i.id));
}

pub forms_stay : (b c : Nodes) → Extends b c → (fs : List Form) → All (IsForm b) fs → All (IsForm c) fs
forms_stay b c x fs a = All-weaker (IsForm b) (IsForm c) (λ f i. form_stays b c x f i) fs a

pub kept_form : (b c : Nodes) → Extends b c → (id made : TermId) → id.0 < length b.terms → made.0 < length c.terms → tree c made.0 ≡ eta_normal (tree b id.0) → IsForm c (record { id = id; made = made })
kept_form b c x id made i m e = record {
  id = omega (arith, i, x.more_terms);
  made = m;
  same = e ∙ ap eta_normal (sym (x.same_terms id.0 i));
}

pub recalled_form : (b : Nodes) (fs : List Form) → All (IsForm b) fs → (id made : TermId) → IsAmong fs (record { id = id; made = made }) → (made.0 < length b.terms) × (tree b made.0 ≡ eta_normal (tree b id.0))
recalled_form b fs a id made h = let k = among (IsForm b) fs (record { id = id; made = made }) a h in (k.made, k.same)
