-- From the names that modules accumulate to numbers, and the sums over all copies.
use Rattle.std.proofs.Common.{◌≡◌, ℕ, suc, ◌+◌, ◌<◌, ◌≤◌, List, [], ◌∷◌, ◌++◌, length, map, drop, take, get_or, reverse, refl, sym, ap, subst, ◌∙◌, arith, Option, Some, None, append_assoc}
use Rattle.std.specs.Prelude.{All, Vec, sum_by}
use Rattle.std.specs.Global.{Global}
use Rattle.std.proofs.lemmas.List.{drop_more, drop_all, take_all, append-nil, length-map, map-append, map_more, get_or-map, reverse-append}
use Rattle.std.proofs.lemmas.List.Sums.{sum_by-drop_more, sum_by_push}
use Rattle.std.proofs.lemmas.List.Elements.{All-nil, All-cons, All-append}
use Rattle.lp_sig.proofs.Heads.{place_below}
use Rattle.lp_sig.specs.Places.{first_place}
use Rattle.lp_copies.specs.Copies.{Copies, no_copy, copy}
use Rattle.lp_module.specs.Copies.{number_list, numbers_of, names_of, uses_of}
use Rattle.lp_copies.specs.Trees.{lists_in}
use Rattle.lp_module.specs.declared.module.Module.{Module}

-- one more name
pub number_more : (names : List (List ℕ)) (us : List (Vec ℕ Global)) (i : ℕ) (u : Vec ℕ Global) (m : ℕ) (old new all : List ℕ) → i < length us → u ≡ get_or us i u → Some m ≡ first_place u.items names → new ≡ old ++ m ∷ [] →
    old ++ numbers_of names (map (λ u. u.items) (drop i us)) ≡ all → new ++ numbers_of names (map (λ u. u.items) (drop (i + 1) us)) ≡ all
number_more names us i u m old new all h at is pushed e =
    ap (λ n. n ++ rest) pushed ∙ append_assoc old (m ∷ []) rest ∙
    ap (λ l. old ++ l) (ap (λ o. number_list o ++ rest) is ∙ sym (ap (λ l. numbers_of names (map (λ u. u.items) l)) (drop_more us i u h ∙ ap (λ x. x ∷ drop (i + 1) us) (sym at)))) ∙ e
  where
    rest : List ℕ
    rest = numbers_of names (map (λ u. u.items) (drop (i + 1) us))

pub numbers_done : (names : List (List ℕ)) (us : List (Vec ℕ Global)) (i : ℕ) (old all : List ℕ) → length us ≤ i → old ++ numbers_of names (map (λ u. u.items) (drop i us)) ≡ all → old ≡ all
numbers_done names us i old all h e = sym (ap (λ l. old ++ numbers_of names (map (λ u. u.items) l)) (drop_all i us h) ∙ append-nil old) ∙ e

-- one more module
pub module_more : (modules : List Module) (i : ℕ) (m : Module) (out : Vec ℕ Global) (old new : List (Vec ℕ Global)) → i < length modules → m ≡ get_or modules i m → out.items ≡ numbers_of (names_of modules) (map (λ u. u.items) m.uses.items) → new ≡ old ++ out ∷ [] →
    lists_in old ≡ map (λ m. numbers_of (names_of modules) (map (λ u. u.items) m.uses.items)) (take i modules) → lists_in new ≡ map (λ m. numbers_of (names_of modules) (map (λ u. u.items) m.uses.items)) (take (i + 1) modules)
module_more modules i m out old new h at is pushed e =
    ap lists_in pushed ∙ map-append (λ o. o.items) old (out ∷ []) ∙ ap (λ l. l ++ out.items ∷ []) e ∙
    ap (λ x. map f (take i modules) ++ x ∷ []) (is ∙ ap f at) ∙ sym (map_more f modules i m h)
  where
    f : Module → List ℕ
    f m = numbers_of (names_of modules) (map (λ u. u.items) m.uses.items)

pub modules_done : (modules : List Module) (i : ℕ) (uses : List (Vec ℕ Global)) → length modules ≤ i → lists_in uses ≡ map (λ m. numbers_of (names_of modules) (map (λ u. u.items) m.uses.items)) (take i modules) → lists_in uses ≡ uses_of modules
modules_done modules i uses h e = e ∙ ap (map (λ m. numbers_of (names_of modules) (map (λ u. u.items) m.uses.items))) (take_all i modules h)

-- each use is a module
number_within : (names : List (List ℕ)) (n : ℕ) (u : List ℕ) (o : Option ℕ) → length names ≡ n → first_place u names ≡ o → All (λ m. m < n) (number_list o)
number_within names n u None e is = All-nil (λ m. m < n)
number_within names n u (Some m) e is = All-cons (λ m. m < n) m [] (subst (λ k. m < k) e (place_below u names m is)) (All-nil (λ m. m < n))

numbers_within : (names : List (List ℕ)) (n : ℕ) (us : List (List ℕ)) → length names ≡ n → All (λ m. m < n) (numbers_of names us)
numbers_within names n [] e = All-nil (λ m. m < n)
numbers_within names n (u ∷ us) e = All-append (λ m. m < n) (number_list (first_place u names)) (numbers_of names us) (number_within names n u (first_place u names) e refl) (numbers_within names n us e)

each_within : (names : List (List ℕ)) (n : ℕ) (modules : List Module) → length names ≡ n → All (λ out. All (λ m. m < n) out) (map (λ m. numbers_of names (map (λ u. u.items) m.uses.items)) modules)
each_within names n [] e = All-nil (λ out. All (λ m. m < n) out)
each_within names n (m ∷ ms) e = All-cons (λ out. All (λ m. m < n) out) _ _ (numbers_within names n (map (λ u. u.items) m.uses.items) e) (each_within names n ms e)

pub uses_count : (modules : List Module) (uses : List (Vec ℕ Global)) → lists_in uses ≡ uses_of modules → length uses ≡ length modules
uses_count modules uses is = sym (length-map uses (λ o. o.items)) ∙ ap length is ∙ length-map modules (λ m. numbers_of (names_of modules) (map (λ u. u.items) m.uses.items))

pub uses_within : (modules : List Module) (uses : List (Vec ℕ Global)) → lists_in uses ≡ uses_of modules → All (λ out. All (λ m. m < length uses) out) (lists_in uses)
uses_within modules uses is =
    subst (All (λ out. All (λ m. m < length uses) out)) (sym is) (each_within (names_of modules) (length uses) modules (length-map modules (λ m. m.name.items) ∙ sym (uses_count modules uses is)))

-- each copy is of a module
copies_within : (uses : List (List ℕ)) (todo all : List ℕ) → All (λ out. All (λ m. m < length uses) out) uses → All (λ m. m < length uses) todo → Copies uses todo all → All (λ m. m < length uses) all
copies_within uses todo all w t no_copy = All-nil (λ m. m < length uses)
copies_within uses todo all w t (copy m rest below others x b o is) =
    let h : m < length uses = t 0 m (omega arith) in
    subst (All (λ k. k < length uses)) (sym is) (All-append (λ k. k < length uses) below (m ∷ others)
    (copies_within uses (get_or uses m []) below w (w m [] h) b)
    (All-cons (λ k. k < length uses) m others h (copies_within uses rest others w (λ k d l. t (suc k) d (omega (arith, l))) o)))

pub order_within : (outs : List (Vec ℕ Global)) (modules : List Module) (root : ℕ) (order : List ℕ) → lists_in outs ≡ uses_of modules → root < length modules → Copies (lists_in outs) (root ∷ []) order → All (λ m. m < length modules) order
order_within outs modules root order is h c =
    let n = uses_count modules outs is in
    let l = length-map outs (λ o. o.items) in
    subst (λ k. All (λ m. m < k) order) (l ∙ n)
    (copies_within (lists_in outs) (root ∷ []) order (subst (λ k. All (λ out. All (λ m. m < k) out) (lists_in outs)) (sym l) (uses_within modules outs is)) (All-cons (λ m. m < length (lists_in outs)) root [] (omega (arith, h, n, l)) (All-nil (λ m. m < length (lists_in outs)))) c)

-- one more copy in a sum
pub sum_more : (f : Module → ℕ) (modules : List Module) (order : List ℕ) (i at : ℕ) (m : Module) (sum all whole : ℕ) → i < length order → at ≡ get_or order i at → at < length modules → m ≡ get_or modules at m → all ≡ sum + f m →
    sum + sum_by (λ k. get_or (map f modules) k 0) (drop i order) ≡ whole → all + sum_by (λ k. get_or (map f modules) k 0) (drop (i + 1) order) ≡ whole
sum_more f modules order i at m sum all whole h is inside m_at e w =
    let s = sum_by-drop_more (λ k. get_or (map f modules) k 0) order i at h in
    let g : get_or (map f modules) (get_or order i at) 0 ≡ f m = ap (λ k. get_or (map f modules) k 0) (sym is) ∙ get_or-map f modules at m 0 inside ∙ ap f (sym m_at) in
    omega (arith, s, g, e, w)

pub sum_passed : (f : Module → ℕ) (modules : List Module) (order : List ℕ) (i at : ℕ) (m : Module) (sum whole : ℕ) → i < length order → at ≡ get_or order i at → at < length modules → m ≡ get_or modules at m → 1048576 < sum + f m →
    sum + sum_by (λ k. get_or (map f modules) k 0) (drop i order) ≡ whole → 1048576 < whole
sum_passed f modules order i at m sum whole h is inside m_at e w =
    let s = sum_by-drop_more (λ k. get_or (map f modules) k 0) order i at h in
    let g : get_or (map f modules) (get_or order i at) 0 ≡ f m = ap (λ k. get_or (map f modules) k 0) (sym is) ∙ get_or-map f modules at m 0 inside ∙ ap f (sym m_at) in
    omega (arith, s, g, e, w)

pub sum_done : (g : ℕ → ℕ) (order : List ℕ) (i sum whole : ℕ) → length order ≤ i → sum + sum_by g (drop i order) ≡ whole → sum ≡ whole
sum_done g order i sum whole h e = let z : sum_by g (drop i order) ≡ 0 = ap (sum_by g) (drop_all i order h) in omega (arith, z, e)

-- the names that the root exports
pub sum_begun : (f e : Module → ℕ) (base root : ℕ) (modules : List Module) (order : List ℕ) (top : Module) (x all : ℕ) → root < length modules → top ≡ get_or modules root top → x ≡ e top → all ≡ base + x →
    all + sum_by (λ k. get_or (map f modules) k 0) order ≡ base + get_or (map e modules) root 0 + sum_by (λ k. get_or (map f modules) k 0) order
sum_begun f e base root modules order top x all h at is sum =
    let g : get_or (map e modules) root 0 ≡ e top = get_or-map e modules root top 0 h ∙ ap e (sym at) in
    omega (arith, g, is, sum)

pub begun_passed : (f e : Module → ℕ) (base root : ℕ) (modules : List Module) (order : List ℕ) (top : Module) (x : ℕ) → root < length modules → top ≡ get_or modules root top → x ≡ e top → 1048576 < base + x →
    1048576 < base + get_or (map e modules) root 0 + sum_by (λ k. get_or (map f modules) k 0) order
begun_passed f e base root modules order top x h at is passed =
    let g : get_or (map e modules) root 0 ≡ e top = get_or-map e modules root top 0 h ∙ ap e (sym at) in
    omega (arith, g, is, passed)

-- the counts of the open copies, the last one apart
pub last_apart : (g : ℕ → ℕ) (ms fr : List ℕ) (m : ℕ) → ms ≡ m ∷ fr → reverse (map g ms) ≡ reverse (map g fr) ++ g m ∷ []
last_apart g ms fr m e = ap (λ l. reverse (map g l)) e ∙ reverse-append (g m ∷ []) (map g fr)

pub count_at : (f : Module → ℕ) (modules : List Module) (at : ℕ) (m : Module) → at < length modules → m ≡ get_or modules at m → f m ≡ get_or (map f modules) at 0
count_at f modules at m h is = sym (get_or-map f modules at m 0 h ∙ ap f (sym is))

pub total_more : (g : ℕ → ℕ) (left left_then : List ℕ) (m n n_then : ℕ) → left_then ≡ left ++ m ∷ [] → n ≡ sum_by g left → n_then ≡ n + g m → n_then ≡ sum_by g left_then
total_more g left left_then m n n_then is old new = new ∙ ap (λ x. x + g m) old ∙ sym (ap (sum_by g) is ∙ sum_by_push g left m)

-- one more copy is open
pub around_more : (g : ℕ → ℕ) (ms fr : List ℕ) (at n : ℕ) (old new : List ℕ) → ms ≡ at ∷ fr → n ≡ g at → new ≡ old ++ n ∷ [] → old ≡ reverse (map g fr) → new ≡ reverse (map g ms)
around_more g ms fr at n old new e is pushed same = pushed ∙ ap (λ l. l ++ n ∷ []) same ∙ ap (λ x. reverse (map g fr) ++ x ∷ []) is ∙ sym (last_apart g ms fr at e)
