-- What code makes, part by part.
use Rattle.std.proofs.Common.{◌≡◌, ◌∙◌, ℕ, List, [], ◌∷◌, ◌++◌, append_assoc, Bool, true, false, ap, refl, sym}
use Rattle.std.specs.Prelude.{nat_eq, ◌||◌, if◌then◌else◌}
use Rattle.lp_calculus.specs.Types.{Ty, Tys, var, param as type_param, con, arrow, no_types, types}
use Rattle.lp_code.specs.declared.instruction.Instr.{Instr}
use Rattle.lp_code.specs.Operands.{own_set}
use Rattle.lp_code.specs.States.{member}
use Rattle.lp_code.specs.Steps.{is_made}
use Rattle.lp_gen.specs.inner.Pieces.{Piece, type_con, type_arrow, another, piece, pieces, type_made, types_made}
use Rattle.lp_gen.specs.inner.Owned.{makes, new_type, makes_types, IsPlain}
use Rattle.lp_gen.proofs.Denoting.{con_of, arrow_of}

pub makes_both : (xs ys : List Instr) → makes (xs ++ ys) ≡ makes xs ++ makes ys
makes_both [] ys = refl
makes_both (i ∷ is) ys = ap (λ l. own_set i ++ l) (makes_both is ys) ∙ sym (append_assoc (own_set i) (makes is) (makes ys))

pub types_both : (xs ys : List Instr) → makes_types (xs ++ ys) ≡ makes_types xs ++ makes_types ys
types_both [] ys = refl
types_both (i ∷ is) ys = ap (λ l. new_type i ++ l) (types_both is ys) ∙ sym (append_assoc (new_type i) (makes_types is) (makes_types ys))

pub plain_both : (xs ys : List Instr) → IsPlain xs → IsPlain ys → IsPlain (xs ++ ys)
plain_both xs ys x y = record {
  no_own = makes_both xs ys ∙ (λ i. x.no_own i ++ y.no_own i);
  no_types = types_both xs ys ∙ (λ i. x.no_types i ++ y.no_types i);
}

pub plain_none : IsPlain []
plain_none = record { no_own = refl; no_types = refl }

-- a register is made
member_both : (r : ℕ) (xs ys : List ℕ) → member r (xs ++ ys) ≡ (member r xs || member r ys)
member_both r [] ys = refl
member_both r (x ∷ xs) ys = ap (λ t. nat_eq r x || t) (member_both r xs ys) ∙ sym (or_assoc (nat_eq r x) (member r xs) (member r ys))
  where
    or_assoc : (a b c : Bool) → ((a || b) || c) ≡ (a || (b || c))
    or_assoc true b c = refl
    or_assoc false b c = refl

pub made_is : (is : List Instr) (r : ℕ) → is_made own_set is r ≡ member r (makes is)
made_is [] r = refl
made_is (i ∷ is) r = ap (λ t. if member r (own_set i) then true else t) (made_is is r) ∙ as_or (member r (own_set i)) (member r (makes is)) ∙ sym (member_both r (own_set i) (makes is))
  where
    as_or : (a b : Bool) → (if a then true else b) ≡ (a || b)
    as_or true b = refl
    as_or false b = refl

-- types make none

abbrev IsTypePiece : Piece → Type 0
IsTypePiece (type_con d k rs) = Unit {0}
IsTypePiece (type_arrow d a b) = Unit {0}
IsTypePiece another = ⊥

abbrev AreTypePieces : List Piece → Type 0
AreTypePieces [] = Unit {0}
AreTypePieces (p ∷ ps) = IsTypePiece p × AreTypePieces ps

pieces_both : (ps qs : List Piece) → AreTypePieces ps → AreTypePieces qs → AreTypePieces (ps ++ qs)
pieces_both [] qs x y = y
pieces_both (p ∷ ps) qs x y = (x.0, pieces_both ps qs x.1 y)

mutual
  made_pieces : (n : ℕ) (T : Ty) → AreTypePieces (type_made n T).code
  made_pieces n (var i) = tt
  made_pieces n (type_param k) = tt
  made_pieces n (con k ts) = pieces_both (types_made n ts).code (type_con (types_made n ts).next k (types_made n ts).registers ∷ []) (all_pieces n ts) (tt, tt)
  made_pieces n (arrow a b) =
      let l = type_made n a in
      let r = type_made l.next b in
      pieces_both l.code (r.code ++ type_arrow r.next l.register r.register ∷ []) (made_pieces n a) (pieces_both r.code (type_arrow r.next l.register r.register ∷ []) (made_pieces l.next b) (tt, tt))

  all_pieces : (n : ℕ) (Ts : Tys) → AreTypePieces (types_made n Ts).code
  all_pieces n no_types = tt
  all_pieces n (types T Ts) = pieces_both (type_made n T).code (types_made (type_made n T).next Ts).code (made_pieces n T) (all_pieces (type_made n T).next Ts)

one_plain : (i : Instr) (p : Piece) → piece i ≡ p → IsTypePiece p → (own_set i ≡ []) × (new_type i ≡ [])
one_plain i (type_con d k rs) e x = let c = con_of i d k rs e in (ap own_set c.1, ap new_type c.1)
one_plain i (type_arrow d a b) e x = let c = arrow_of i d a b e in (ap own_set c, ap new_type c)
one_plain i another e x = absurd x

pieces_plain : (is : List Instr) → AreTypePieces (pieces is) → IsPlain is
pieces_plain [] x = plain_none
pieces_plain (i ∷ is) x =
    let y = one_plain i (piece i) refl x.0 in
    let z = pieces_plain is x.1 in
    record { no_own = λ j. y.0 j ++ z.no_own j; no_types = λ j. y.1 j ++ z.no_types j }

pub type_plain : (is : List Instr) (n : ℕ) (T : Ty) → pieces is ≡ (type_made n T).code → IsPlain is
type_plain is n T e = pieces_plain is (Rattle.std.proofs.Common.subst AreTypePieces (sym e) (made_pieces n T))
