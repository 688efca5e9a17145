-- One more name behind others, and what its number is.
use Rattle.std.proofs.Common.{◌≡◌, ℕ, zero, suc, ◌+◌, ◌<◌, ◌≤◌, List, [], ◌∷◌, ◌++◌, length, refl, sym, ap, subst, ◌∙◌, arith, Bool, true, false, nat_lt, inl, inr, append_assoc, Option, Some}
use Rattle.std.specs.Prelude.{◌⊎◌, if◌then◌else◌}
use Rattle.std.specs.Str.{bytes_eq}
use Rattle.std.proofs.lemmas.Bool.{ltb-true, ltb-false}
use Rattle.std.proofs.lemmas.List.{append-nil, length-append}
use Rattle.std.proofs.lemmas.Slice.Eq.{bytes_eq-Decides}
use Rattle.lp_module.specs.Numbering.{hidden_one, hidden_ones, capped, NumberedFrom, AreNumbered, following, or_none}
use Rattle.std.proofs.lemmas.List.Elements.{All-push}
use Rattle.lp_term.specs.Nodes.{Nodes}
use Rattle.lp_model.specs.declared.program.Declared.{Declared}
use Rattle.lp_module.specs.Making.{AreTyped}
use Rattle.lp_module.specs.declared.copies.GlobalName.{GlobalName}

hidden_push : (name : List ℕ) (gs : List GlobalName) (g : GlobalName) → hidden_ones name (gs ++ g ∷ []) ≡ hidden_ones name gs + (if bytes_eq name g.name.items then hidden_one g.hidden else 0)
hidden_push name [] g = omega arith
hidden_push name (x ∷ xs) g = let e = hidden_push name xs g in omega (arith, e)

numbered_from : (before gs : List GlobalName) (g : GlobalName) → NumberedFrom before gs → (g.hidden ≡ 0) ⊎ (g.hidden ≡ capped (hidden_ones g.name.items (before ++ gs) + 1)) → NumberedFrom before (gs ++ g ∷ [])
numbered_from before [] g n is = (subst (λ l. (g.hidden ≡ 0) ⊎ (g.hidden ≡ capped (hidden_ones g.name.items l + 1))) (append-nil before) is, tt)
numbered_from before (x ∷ xs) g (h, n) is = (h, numbered_from (before ++ x ∷ []) xs g n (subst (λ l. (g.hidden ≡ 0) ⊎ (g.hidden ≡ capped (hidden_ones g.name.items l + 1))) (sym (append_assoc before (x ∷ []) xs)) is))

pub numbered_push : (gs gs_then : List GlobalName) (g : GlobalName) → gs_then ≡ gs ++ g ∷ [] → (g.hidden ≡ 0) ⊎ (g.hidden ≡ capped (hidden_ones g.name.items gs + 1)) → AreNumbered gs → AreNumbered gs_then
numbered_push gs gs_then g e is n = subst AreNumbered (sym e) (numbered_from [] gs g n is)

-- the count of each name, behind one more global or hidden one
global_same : (t : Bool) (n h : ℕ) → h ≡ 0 → n ≡ n + (if t then hidden_one h else 0)
global_same true n h e = let z : hidden_one h ≡ 0 = ap hidden_one e in omega (arith, z)
global_same false n h e = omega arith

pub counted_global : (count : List ℕ → ℕ) (gs gs_then : List GlobalName) (g : GlobalName) → gs_then ≡ gs ++ g ∷ [] → g.hidden ≡ 0 → ((name : List ℕ) → count name ≡ capped (hidden_ones name gs)) → (name : List ℕ) → count name ≡ capped (hidden_ones name gs_then)
counted_global count gs gs_then g e none same name =
    same name ∙ ap capped (global_same (bytes_eq name g.name.items) (hidden_ones name gs) g.hidden none ∙ sym (ap (hidden_ones name) e ∙ hidden_push name gs g))

capped_by : (n : ℕ) (t : Bool) → nat_lt n 65535 ≡ t → capped n ≡ (if t then n else 65535)
capped_by n t e = ap (λ b. if b then n else 65535) e

capped_next : (n : ℕ) (t : Bool) → n ≤ 65534 → nat_lt (n + 1) 65535 ≡ t → capped (n + 1) ≡ n + 1
capped_next n true h e = capped_by (n + 1) true e
capped_next n false h e = capped_by (n + 1) false e ∙ (let l = ltb-false (n + 1) 65535 e in omega (arith, h, l))

capped_past : (n : ℕ) (t : Bool) → 65535 ≤ n → nat_lt (n + 1) 65535 ≡ t → capped (n + 1) ≡ 65535
capped_past n true h e = absurd (let l = ltb-true (n + 1) 65535 e in omega (arith, h, l))
capped_past n false h e = capped_by (n + 1) false e

following_by : (n : ℕ) (t : Bool) → nat_lt n 65535 ≡ t → following (capped n) ≡ capped (n + 1)
following_by n true e = ap following (capped_by n true e) ∙ ap (λ b. if b then n + 1 else 65535) e ∙ sym (capped_next n (nat_lt (n + 1) 65535) (let l = ltb-true n 65535 e in omega (arith, l)) refl)
following_by n false e = ap following (capped_by n false e) ∙ sym (capped_past n (nat_lt (n + 1) 65535) (ltb-false n 65535 e) refl)

pub following_is : (c n : ℕ) → c ≡ capped n → following c ≡ capped (n + 1)
following_is c n e = ap following e ∙ following_by n (nat_lt n 65535) refl

some_number : (n h : ℕ) (t : Bool) → nat_lt (n + 1) 65535 ≡ t → h ≡ capped (n + 1) → hidden_one h ≡ 1
some_number n zero true e is = absurd (let z = is ∙ capped_by (n + 1) true e in omega (arith, z))
some_number n zero false e is = absurd (let z = is ∙ capped_by (n + 1) false e in omega (arith, z))
some_number n (suc h) t e is = refl

pub hidden_number : (c h n : ℕ) → c ≡ capped n → h ≡ following c → (h ≡ 0) ⊎ (h ≡ capped (n + 1))
hidden_number c h n e is = inr (is ∙ following_is c n e)

pub counted_hidden : (count count_then : List ℕ → ℕ) (gs gs_then : List GlobalName) (g : GlobalName) (name_of : List ℕ) (h : ℕ) → gs_then ≡ gs ++ g ∷ [] → g.name.items ≡ name_of → g.hidden ≡ h → h ≡ following (count name_of) →
    ((other : List ℕ) → count_then other ≡ (if bytes_eq other name_of then h else count other)) →
    ((name : List ℕ) → count name ≡ capped (hidden_ones name gs)) → (name : List ℕ) → count_then name ≡ capped (hidden_ones name gs_then)
counted_hidden count count_then gs gs_then g name_of h e named is next put same name = put name ∙ by (bytes_eq name name_of) refl
  where
    whole : hidden_ones name gs_then ≡ hidden_ones name gs + (if bytes_eq name name_of then hidden_one h else 0)
    whole = ap (hidden_ones name) e ∙ hidden_push name gs g ∙ ap (λ n. hidden_ones name gs + (if bytes_eq name n then hidden_one g.hidden else 0)) named ∙ ap (λ k. hidden_ones name gs + (if bytes_eq name name_of then hidden_one k else 0)) is

    by : (t : Bool) → bytes_eq name name_of ≡ t → (if t then h else count name) ≡ capped (hidden_ones name gs_then)
    by true t =
        let at : name ≡ name_of = (bytes_eq-Decides name name_of).0 t in
        let counted : h ≡ capped (hidden_ones name gs + 1) = next ∙ ap (λ x. following (count x)) (sym at) ∙ following_is (count name) (hidden_ones name gs) (same name) in
        let one : hidden_one h ≡ 1 = some_number (hidden_ones name gs) h (nat_lt (hidden_ones name gs + 1) 65535) refl counted in
        counted ∙ ap capped (ap (λ k. hidden_ones name gs + k) (sym one) ∙ ap (λ b. hidden_ones name gs + (if b then hidden_one h else 0)) (sym t) ∙ sym whole)
    by false t = same name ∙ ap capped (let z : hidden_ones name gs + 0 ≡ hidden_ones name gs = omega arith in sym z ∙ ap (λ b. hidden_ones name gs + (if b then hidden_one h else 0)) (sym t) ∙ sym whole)

pub put_count : (t : Bool) (n : ℕ) (o : Option ℕ) → or_none (if t then Some n else o) ≡ (if t then n else or_none o)
put_count true n o = refl
put_count false n o = refl

-- one more hidden name, with the next number
pub hidden_added : (count count_then : List ℕ → ℕ) (gs gs_then : List GlobalName) (g : GlobalName) (name_of : List ℕ) → gs_then ≡ gs ++ g ∷ [] → g.name.items ≡ name_of → g.hidden ≡ following (count name_of) →
    ((other : List ℕ) → count_then other ≡ (if bytes_eq other name_of then g.hidden else count other)) →
    ((name : List ℕ) → count name ≡ capped (hidden_ones name gs)) → AreNumbered gs → ((name : List ℕ) → count_then name ≡ capped (hidden_ones name gs_then)) × AreNumbered gs_then
hidden_added count count_then gs gs_then g name_of e named next put same numbered = (
  counted_hidden count count_then gs gs_then g name_of g.hidden e named refl next put same,
  numbered_push gs gs_then g e (hidden_number (count name_of) g.hidden (hidden_ones g.name.items gs) (same name_of ∙ ap (λ n. capped (hidden_ones n gs)) (sym named)) next) numbered,
)

-- one more global name
pub global_added : (count : List ℕ → ℕ) (gs gs_then : List GlobalName) (g : GlobalName) → gs_then ≡ gs ++ g ∷ [] → g.hidden ≡ 0 → ((name : List ℕ) → count name ≡ capped (hidden_ones name gs)) → AreNumbered gs → ((name : List ℕ) → count name ≡ capped (hidden_ones name gs_then)) × AreNumbered gs_then
global_added count gs gs_then g e none same numbered = (counted_global count gs gs_then g e none same, numbered_push gs gs_then g e (inl none) numbered)

-- two lists with one more each
pub both_more : {A B : Type 0} (xs xs_then : List A) (ys ys_then : List B) (x : A) (y : B) → xs_then ≡ xs ++ x ∷ [] → ys_then ≡ ys ++ y ∷ [] → length xs ≡ length ys → length xs_then ≡ length ys_then
both_more xs xs_then ys ys_then x y e f same =
    let a = ap length e in
    let b = ap length f in
    let c = length-append xs (x ∷ []) in
    let d = length-append ys (y ∷ []) in
    omega (arith, a, b, c, d, same)

-- no name was added
pub none_counted : (count : List ℕ → ℕ) (gs : List GlobalName) → gs ≡ [] → ((name : List ℕ) → count name ≡ 0) → (name : List ℕ) → count name ≡ capped (hidden_ones name gs)
none_counted count gs e none name = none name ∙ sym (ap (λ l. capped (hidden_ones name l)) e)

pub none_numbered : (gs : List GlobalName) → gs ≡ [] → AreNumbered gs
none_numbered gs e = subst AreNumbered (sym e) tt

-- one more type of a constant
pub typed_push : (b : Nodes) (ds ds_then : List Declared) (d : Declared) → ds_then ≡ ds ++ d ∷ [] → AreTyped b ds → d.scheme.0 < length b.types → AreTyped b ds_then
typed_push b ds ds_then d e all h = subst (AreTyped b) (sym e) (All-push (λ d. d.scheme.0 < length b.types) ds d all h)
