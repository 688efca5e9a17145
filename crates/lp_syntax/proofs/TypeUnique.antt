-- The tokens of a type are one type.
use Rattle.std.proofs.Common.{◌≡◌, ◌≢◌, ℕ, zero, suc, ◌+◌, ◌<◌, ◌≤◌, List, [], refl, sym, ap, ◌∙◌, subst, arith}
use Rattle.lp_syntax.specs.declared.class.Class.{Class}
use Rattle.lp_syntax.specs.declared.class.Class.TheVariants.{Lower, Upper, Open, Close, Arrow, Backslash}
use Rattle.lp_syntax.specs.Tokens.{Lexeme, class_at}
use Rattle.lp_syntax.specs.Types.{TypeTree, Named, Applied, Arrows, Level, Argument, Head, Side, Whole, IsType, word, variable, group, head, applied, side_head, side_argument, target, arrow}
use Rattle.lp_syntax.specs.TypeMachine.{TypeState, Ends, ts, type_step, Runs, Wants, IsHalt}
use Rattle.lp_syntax.proofs.TypeReading.{above_close, type_complete, runs_further}
use Rattle.lp_syntax.proofs.TypeFaults.{type_up, Compared, less, same, more, compared, goes_further, ends_no_more, ended_there, type_end}

-- a type before a closing bracket ends at one place
closed_there : (ls : List Lexeme) (i j : ℕ) (t : TypeTree) → IsType ls Whole i j t → class_at ls j ≡ Close → (s : TypeState) × Runs ls (ts [] Wants) i s j × (type_step s (class_at ls j) ≡ Ends)
closed_there ls i j t d e = let r = type_complete ls Whole i j t d [] in (r.0, r.2, ap (type_step r.0) e ∙ above_close [] r.0 r.1)

not_before : (ls : List Lexeme) (i j k : ℕ) (t u : TypeTree) → IsType ls Whole i j t → class_at ls j ≡ Close → IsType ls Whole i k u → class_at ls k ≡ Close → j < k → ⊥
not_before ls i j k t u d e f g l =
    let a = closed_there ls i j t d e in
    let b = closed_there ls i k u f g in
    let h = goes_further ls a.0 b.0 j k (runs_further ls (ts [] Wants) a.0 b.0 i j k a.1 b.1 (omega (arith, l))) l in
    ends_no_more _ h.0 a.2 h.1

one_close : (ls : List Lexeme) (i j k : ℕ) (t u : TypeTree) → IsType ls Whole i j t → class_at ls j ≡ Close → IsType ls Whole i k u → class_at ls k ≡ Close → j ≡ k
one_close ls i j k t u d e f g = go (compared j k)
  where
    go : Compared j k → j ≡ k
    go (less l) = absurd (not_before ls i j k t u d e f g l)
    go (same p) = p
    go (more l) = absurd (not_before ls i k j u t f g d e l)

-- an argument ends at one place
argument_end : (ls : List Lexeme) (i j k : ℕ) (t u : TypeTree) → IsType ls Argument i j t → IsType ls Argument i k u → j ≡ k
argument_end ls i j k t u (word _ e) (word _ f) = refl
argument_end ls i j k t u (word _ e) (variable _ f) = refl
argument_end ls i j k t u (word _ e) (group _ m v f d g) = absurd (let z : Lower ≡ Open = sym e ∙ f in cc)
argument_end ls i j k t u (variable _ e) (word _ f) = refl
argument_end ls i j k t u (variable _ e) (variable _ f) = refl
argument_end ls i j k t u (variable _ e) (group _ m v f d g) = absurd (let z : Upper ≡ Open = sym e ∙ f in cc)
argument_end ls i j k t u (group _ m v f d g) (word _ e) = absurd (let z : Lower ≡ Open = sym e ∙ f in cc)
argument_end ls i j k t u (group _ m v f d g) (variable _ e) = absurd (let z : Upper ≡ Open = sym e ∙ f in cc)
argument_end ls i j k t u (group _ m v f d g) (group _ n w h e p) = ap suc (one_close ls (suc i) m n t u d g e p)

-- an argument begins so
begins_argument : (ls : List Lexeme) (i j : ℕ) (t : TypeTree) (c : Class) → IsType ls Argument i j t → class_at ls i ≡ c → c ≢ Lower → c ≢ Upper → c ≢ Open → ⊥
begins_argument ls i j t c (word _ e) h a b d = a (sym h ∙ e)
begins_argument ls i j t c (variable _ e) h a b d = b (sym h ∙ e)
begins_argument ls i j t c (group _ m v f x g) h a b d = d (sym h ∙ f)

begins_head : (ls : List Lexeme) (i j : ℕ) (t : TypeTree) → IsType ls Head i j t → class_at ls i ≡ Lower
begins_head ls i j t (head _ e) = e
begins_head ls i j t (applied _ m _ u w d e) = begins_head ls i m u d

-- where a kind on arguments goes on there is a further argument
record Further (ls : List Lexeme) (m n : ℕ) : Type 0 where
  pub end : ℕ
  pub tree : TypeTree
  pub argument : IsType ls Argument m end tree
  pub within : end ≤ n

further : (c : ℕ) (ls : List Lexeme) (i m n : ℕ) (t u : TypeTree) → m + n ≤ c → IsType ls Head i m t → IsType ls Head i n u → m < n → Further ls m n
further zero ls i m n t u l d e h = absurd (omega (arith, l, h))
further (suc c) ls i m n t u l d (head _ e) h = let z = type_up ls Head i m t d in absurd (omega (arith, z, h))
further (suc c) ls i m n t u l d (applied _ k _ v w e f) h = go (compared m k) (λ p q. further c ls i m k t v p d e q) (λ p q. further c ls i k m v t p e d q)
  where
    up : k < n
    up = type_up ls Argument k n w f

    back : Further ls k m → k < m → Further ls m n
    back x y = let z : x.end ≡ n = argument_end ls k x.end n x.tree w x.argument f in let p = x.within in absurd (omega (arith, z, p, h))

    go : Compared m k → (m + k ≤ c → m < k → Further ls m k) → (k + m ≤ c → k < m → Further ls k m) → Further ls m n
    go (less p) x y = let r = x (omega (arith, l, up)) p in record { end = r.end; tree = r.tree; argument = r.argument; within = let z = r.within in omega (arith, z, up) }
    go (same p) x y = subst (λ z. Further ls z n) (sym p) (record { end = n; tree = w; argument = f; within = omega arith })
    go (more p) x y = back (y (omega (arith, l, h)) p) p

next_argument : (ls : List Lexeme) (i m n : ℕ) (t u : TypeTree) → IsType ls Head i m t → IsType ls Head i n u → m < n → Further ls m n
next_argument ls i m n t u d e h = further (m + n) ls i m n t u (omega arith) d e h

-- the left side of an arrow ends at one place
side_before : (ls : List Lexeme) (i m n : ℕ) (t u : TypeTree) → IsType ls Side i m t → class_at ls m ≡ Arrow → IsType ls Side i n u → m < n → ⊥
side_before ls i m n t u (side_head _ _ _ d) a (side_head _ _ _ e) l = let r = next_argument ls i m n t u d e l in begins_argument ls m r.end r.tree Arrow r.argument a (λ z. cc) (λ z. cc) (λ z. cc)
side_before ls i m n t u (side_head _ _ _ d) a (side_argument _ _ _ (word _ e)) l = let z = type_up ls Head i m t d in omega (arith, z, l)
side_before ls i m n t u (side_head _ _ _ d) a (side_argument _ _ _ (variable _ e)) l = let z : Lower ≡ Upper = sym (begins_head ls i m t d) ∙ e in cc
side_before ls i m n t u (side_head _ _ _ d) a (side_argument _ _ _ (group _ k v e f g)) l = let z : Lower ≡ Open = sym (begins_head ls i m t d) ∙ e in cc
side_before ls i m n t u (side_argument _ _ _ d) a (side_argument _ _ _ e) l = let z = argument_end ls i m n t u d e in omega (arith, z, l)
side_before ls i m n t u (side_argument _ _ _ (word _ f)) a (side_head _ _ _ e) l = let r = next_argument ls i (suc i) n (Named i) u (head i f) e l in begins_argument ls (suc i) r.end r.tree Arrow r.argument a (λ z. cc) (λ z. cc) (λ z. cc)
side_before ls i m n t u (side_argument _ _ _ (variable _ f)) a (side_head _ _ _ e) l = let z : Lower ≡ Upper = sym (begins_head ls i n u e) ∙ f in cc
side_before ls i m n t u (side_argument _ _ _ (group _ k v f x g)) a (side_head _ _ _ e) l = let z : Lower ≡ Open = sym (begins_head ls i n u e) ∙ f in cc

two_applied : {t u v w : TypeTree} → t ≡ u → v ≡ w → Applied t v ≡ Applied u w
two_applied e f = λ i. Applied (e i) (f i)

two_arrows : {t u v w : TypeTree} → t ≡ u → v ≡ w → Arrows t v ≡ Arrows u w
two_arrows e f = λ i. Arrows (e i) (f i)

-- where two heads of one application end
head_split : (ls : List Lexeme) (i m n j : ℕ) (t u v w : TypeTree) → IsType ls Head i m t → IsType ls Argument m j v → IsType ls Head i n u → IsType ls Argument n j w → m ≡ n
head_split ls i m n j t u v w d a e b = go (compared m n)
  where
    apart : (m n : ℕ) (t u v w : TypeTree) → IsType ls Head i m t → IsType ls Argument m j v → IsType ls Head i n u → IsType ls Argument n j w → m < n → ⊥
    apart m n t u v w d a e b l =
        let r = next_argument ls i m n t u d e l in
        let z = argument_end ls m r.end j r.tree v r.argument a in
        let y = r.within in
        let x = type_up ls Argument n j w b in
        omega (arith, z, y, x)

    go : Compared m n → m ≡ n
    go (less l) = absurd (apart m n t u v w d a e b l)
    go (same p) = p
    go (more l) = absurd (apart n m u t w v e b d a l)

side_end : (ls : List Lexeme) (i m n : ℕ) (t u : TypeTree) → IsType ls Side i m t → class_at ls m ≡ Arrow → IsType ls Side i n u → class_at ls n ≡ Arrow → m ≡ n
side_end ls i m n t u d a e b = go (compared m n)
  where
    go : Compared m n → m ≡ n
    go (less l) = absurd (side_before ls i m n t u d a e l)
    go (same p) = p
    go (more l) = absurd (side_before ls i n m u t e b d l)

-- a kind alone is a head and an argument
head_argument : (ls : List Lexeme) (i j i' j' : ℕ) (t u : TypeTree) → i ≡ i' → j ≡ j' → IsType ls Head i j t → IsType ls Argument i' j' u → t ≡ u
head_argument ls i j i' j' t u p q (head _ e) (word _ f) = ap Named p
head_argument ls i j i' j' t u p q (head _ e) (variable _ f) = ap Named p
head_argument ls i j i' j' t u p q (head _ e) (group _ m v f d g) = absurd (let z : Lower ≡ Open = sym e ∙ ap (class_at ls) p ∙ f in cc)
head_argument ls i j i' j' t u p q (applied _ m _ v w d e) (word _ f) = let y = type_up ls Head i m v d in let z = type_up ls Argument m j w e in absurd (omega (arith, y, z, p, q))
head_argument ls i j i' j' t u p q (applied _ m _ v w d e) (variable _ f) = let y = type_up ls Head i m v d in let z = type_up ls Argument m j w e in absurd (omega (arith, y, z, p, q))
head_argument ls i j i' j' t u p q (applied _ m _ v w d e) (group _ n x f h g) = absurd (let z : Lower ≡ Open = sym (begins_head ls i m v d) ∙ ap (class_at ls) p ∙ f in cc)

types_one : (ls : List Lexeme) (v : Level) (i j i' j' : ℕ) (t u : TypeTree) → i ≡ i' → j ≡ j' → IsType ls v i j t → IsType ls v i' j' u → t ≡ u
types_one ls v i j i' j' t u p q (word _ e) (word _ f) = ap Named p
types_one ls v i j i' j' t u p q (word _ e) (variable _ f) = ap Named p
types_one ls v i j i' j' t u p q (word _ e) (group _ m w f d g) = let z = type_up ls Whole (suc i') m w d in absurd (omega (arith, z, p, q))
types_one ls v i j i' j' t u p q (variable _ e) (word _ f) = ap Named p
types_one ls v i j i' j' t u p q (variable _ e) (variable _ f) = ap Named p
types_one ls v i j i' j' t u p q (variable _ e) (group _ m w f d g) = let z = type_up ls Whole (suc i') m w d in absurd (omega (arith, z, p, q))
types_one ls v i j i' j' t u p q (group _ m w f d g) (word _ e) = let z = type_up ls Whole (suc i) m w d in absurd (omega (arith, z, p, q))
types_one ls v i j i' j' t u p q (group _ m w f d g) (variable _ e) = let z = type_up ls Whole (suc i) m w d in absurd (omega (arith, z, p, q))
types_one ls v i j i' j' t u p q (group _ m w f d g) (group _ n x h e k) = types_one ls Whole (suc i) m (suc i') n t u (ap suc p) (omega (arith, q)) d e
types_one ls v i j i' j' t u p q (head _ e) (head _ f) = ap Named p
types_one ls v i j i' j' t u p q (head _ e) (applied _ m _ w x d f) = let y = type_up ls Head i' m w d in let z = type_up ls Argument m j' x f in absurd (omega (arith, y, z, p, q))
types_one ls v i j i' j' t u p q (applied _ m _ w x d f) (head _ e) = let y = type_up ls Head i m w d in let z = type_up ls Argument m j x f in absurd (omega (arith, y, z, p, q))
types_one ls v i j i' j' t u p q (applied _ m _ w x d e) (applied _ n _ y z f g) =
    let h = head_split ls i m n j w y x z d e (subst (λ k. IsType ls Head k n y) (sym p) f) (subst (λ k. IsType ls Argument n k z) (sym q) g) in
    two_applied (types_one ls Head i m i' n w y p h d f) (types_one ls Argument m j n j' x z h q e g)
types_one ls v i j i' j' t u p q (side_head _ _ _ d) (side_head _ _ _ e) = types_one ls Head i j i' j' t u p q d e
types_one ls v i j i' j' t u p q (side_head _ _ _ d) (side_argument _ _ _ e) = head_argument ls i j i' j' t u p q d e
types_one ls v i j i' j' t u p q (side_argument _ _ _ d) (side_head _ _ _ e) = sym (head_argument ls i' j' i j u t (sym p) (sym q) e d)
types_one ls v i j i' j' t u p q (side_argument _ _ _ d) (side_argument _ _ _ e) = types_one ls Argument i j i' j' t u p q d e
types_one ls v i j i' j' t u p q (target _ _ _ d) (target _ _ _ e) = types_one ls Side i j i' j' t u p q d e
types_one ls v i j i' j' t u p q (target _ _ _ d) (arrow _ m _ w x e f g) = let z = type_up ls Whole (suc m) j' x g in absurd (side_before ls i' m j' w t e f (subst (λ k. IsType ls Side k j' t) p (subst (λ k. IsType ls Side i k t) q d)) (omega (arith, z)))
types_one ls v i j i' j' t u p q (arrow _ m _ w x e f g) (target _ _ _ d) = let z = type_up ls Whole (suc m) j x g in absurd (side_before ls i m j w u e f (subst (λ k. IsType ls Side k j u) (sym p) (subst (λ k. IsType ls Side i' k u) (sym q) d)) (omega (arith, z)))
types_one ls v i j i' j' t u p q (arrow _ m _ w x d e f) (arrow _ n _ y z g h k) =
    let r = side_end ls i m n w y d e (subst (λ l. IsType ls Side l n y) (sym p) g) h in
    two_arrows (types_one ls Side i m i' n w y p r d g) (types_one ls Whole (suc m) j (suc n) j' x z (ap suc r) q f k)

pub one_type : (ls : List Lexeme) (v : Level) (i j : ℕ) (t u : TypeTree) → IsType ls v i j t → IsType ls v i j u → t ≡ u
one_type ls v i j t u d e = types_one ls v i j i j t u refl refl d e

-- an annotation ends at one place and is one type
pub one_annotation : (ls : List Lexeme) (i j k : ℕ) (t u : TypeTree) → IsType ls Whole i j t → class_at ls j ≡ Backslash → IsType ls Whole i k u → class_at ls k ≡ Backslash → (j ≡ k) × (t ≡ u)
one_annotation ls i j k t u d e f g =
    let a = ended_there ls i j t d e in
    let h = type_end ls i j k a.0 u a.1 (subst IsHalt (sym a.2) tt) f g in
    (h.0, types_one ls Whole i j i k t u refl h.0 d f)
