-- Queries from terms.
use Rattle.std.proofs.Common.{◌≡◌, ℕ, suc, ◌+◌, ◌<◌, ◌≤◌, ◌⊎◌, inl, inr, List, [], length, refl, sym, ap, ◌∙◌, subst, arith}
use Rattle.lp_base.specs.declared.place.Spot.{Spot}
use Rattle.lp_syntax.specs.declared.class.Class.TheVariants.{Dot}
use Rattle.lp_syntax.specs.declared.fault.SyntaxFault.{SyntaxFault}
use Rattle.std.specs.Prelude.{None, Result, Ok, Err, IfOk, IfErr, IsErrAnd}
use Rattle.lp_syntax.proofs.Referring.{agree_self}
use Rattle.lp_syntax.specs.Faults.{refused, innermost}
use Rattle.lp_syntax.specs.Symbols.{Tree}
use Rattle.lp_syntax.proofs.Classes.{class_there, refused_there}
use Rattle.lp_syntax.specs.Tokens.{Lexeme, Operators, class_at, open_brackets}
use Rattle.lp_syntax.specs.Terms.{TermAt, CanGoOn, NoneOver, StopsAt, IsKind, TermFault, MemoryOr}
use Rattle.lp_syntax.specs.TermViews.{IsOver}
use Rattle.lp_syntax.specs.Depth.{TermFits, TermTooDeep}
use Rattle.lp_syntax.specs.Queries.{IsQuery, QueryBegins, QueryFault, IsQueryRefusal, IsQueryText, IsGiven}
use Rattle.lp_syntax.specs.Raw.{Shows}
use Rattle.lp_base.specs.declared.limit.Limit.TheVariants.{Nesting}
use Rattle.lp_syntax.specs.declared.fault.SyntaxFault.TheVariants as fault
use Rattle.lp_syntax.specs.declared.text.RawQuery.{RawQuery}
use Rattle.lp_syntax.proofs.Tokens.{class_same, agree_less, going_on}
use Rattle.lp_syntax.proofs.TermFaults.{same_term, agree_back, term_read, one_term}
use Rattle.lp_syntax.proofs.TermSteps.{dot_over, dot_symbol, dot_no_colon, other_stops}
use Rattle.lp_syntax.proofs.FaultKinds.{kind_behind}
use Rattle.lp_syntax.specs.Machine.{step}
use Rattle.lp_syntax.proofs.TypeFaults.{Compared, less, same, more, compared}

query_begins : (ops : Operators) (ls : List Lexeme) (n : ℕ) → CanGoOn ops ls 0 n → QueryBegins ops ls n
query_begins ops ls n c = record { text = c.text; agrees = c.agrees; tree = c.tree; query = record { end = length c.text; term = c.term; rest = inl refl } }

-- no term goes over a full stop at which a term ends
pub over_dot : (ops : Operators) (ls : List Lexeme) (from i : ℕ) (t : Tree) → TermAt ops ls from i t → class_at ls i ≡ Dot → NoneOver ops ls from i
over_dot ops ls from i t d e = let r = term_read ops ls from i t d in dot_over ops ls from i r.0 r.1 e

-- a term that stops here goes to no end of a query
stops_first : (ops : Operators) (ls : List Lexeme) (n : ℕ) → StopsAt ops ls 0 n → n < length ls → QueryBegins ops ls (suc n) → ⊥
stops_first ops ls n s l b = go b.query.rest
  where
    at_dot : class_at b.text b.query.end ≡ Dot → Compared n b.query.end → suc b.query.end ≡ length b.text → ⊥
    at_dot d (less u) k = s.first b.text b.agrees b.query.end b.tree u b.query.term
    at_dot d (same e) k =
        let a = agree_less n (suc n) ls b.text (omega arith) b.agrees in
        s.none (inr (sym (class_same (suc n) n ls b.text b.agrees (omega arith)) ∙ ap (class_at b.text) e ∙ d)) b.tree
        (same_term ops n b.text ls (agree_back n ls b.text s.high a) 0 n b.tree (omega arith) (subst (λ m. TermAt ops b.text 0 m b.tree) (sym e) b.query.term))
    at_dot d (more u) k = let h = b.agrees.long in omega (arith, h, u, k)

    go : (b.query.end ≡ length b.text) ⊎ ((class_at b.text b.query.end ≡ Dot) × (suc b.query.end ≡ length b.text)) → ⊥
    go (inl e) = let h = b.agrees.long in s.first b.text b.agrees b.query.end b.tree (omega (arith, e, h)) b.query.term
    go (inr e) = at_dot e.0 (compared n b.query.end) e.1

stops_none : (ops : Operators) (ls : List Lexeme) (n : ℕ) → StopsAt ops ls 0 n → (t : Tree) → IsQuery ops ls t → ⊥
stops_none ops ls n s t q = go (compared n q.end)
  where
    before_dot : (class_at ls q.end ≡ Dot) × (suc q.end ≡ length ls) → q.end < n → ⊥
    before_dot e u =
        let h = s.high in
        let g = s.viable in
        let k = e.1 in
        let v : q.end < n = u in
        let long = g.agrees.long in
        over_dot ops g.text 0 q.end t (same_term ops n ls g.text g.agrees 0 q.end t (omega (arith, u)) q.term) (class_same n q.end ls g.text g.agrees v ∙ e.0) (length g.text) g.tree (omega (arith, long, u)) g.term

    behind_all : (q.end ≡ length ls) ⊎ ((class_at ls q.end ≡ Dot) × (suc q.end ≡ length ls)) → q.end ≤ length ls
    behind_all (inl e) = omega (arith, e)
    behind_all (inr e) = let k = e.1 in omega (arith, k)

    at_end : (q.end ≡ length ls) ⊎ ((class_at ls q.end ≡ Dot) × (suc q.end ≡ length ls)) → n ≡ q.end → ⊥
    at_end (inl e) k = s.none (inl (k ∙ e)) t (subst (λ m. TermAt ops ls 0 m t) (sym k) q.term)
    at_end (inr e) k = s.none (inr (ap (class_at ls) k ∙ e.0)) t (subst (λ m. TermAt ops ls 0 m t) (sym k) q.term)

    too_far : (q.end ≡ length ls) ⊎ ((class_at ls q.end ≡ Dot) × (suc q.end ≡ length ls)) → q.end < n → ⊥
    too_far (inl e) u = let h = s.high in omega (arith, e, u, h)
    too_far (inr e) u = before_dot e u

    go : Compared n q.end → ⊥
    go (less u) = let h = behind_all q.rest in s.first ls (agree_self (suc n) ls (omega (arith, u, h))) q.end t u q.term
    go (same e) = at_end q.rest e
    go (more u) = too_far q.rest u

pub query_stops : (spot : ℕ → Spot) (ops : Operators) (ls : List Lexeme) (f : SyntaxFault) → TermFault spot ops ls 0 f → QueryFault spot ops ls f
query_stops spot ops ls f e = record {
  number = e.number;
  high = e.stops.high;
  viable = query_begins ops ls e.number e.stops.viable;
  first = stops_first ops ls e.number e.stops;
  none = stops_none ops ls e.number e.stops;
  kind = e.kind;
}

-- more tokens behind the full stop of a query
longer_query : (ops : Operators) (ls : List Lexeme) (i : ℕ) (t u : Tree) → TermAt ops ls 0 i t → class_at ls i ≡ Dot → suc i < length ls → IsQuery ops ls u → ⊥
longer_query ops ls i t u d e l q = go q.rest
  where
    go : (q.end ≡ length ls) ⊎ ((class_at ls q.end ≡ Dot) × (suc q.end ≡ length ls)) → ⊥
    go (inl k) = over_dot ops ls 0 i t d e q.end u (omega (arith, k, l)) q.term
    go (inr k) = let h = k.1 in over_dot ops ls 0 i t d e q.end u (omega (arith, h, l)) q.term

pub tail_stops : (spot : ℕ → Spot) (ops : Operators) (ls : List Lexeme) (i : ℕ) (t : Tree) (f : SyntaxFault) → TermAt ops ls 0 i t → class_at ls i ≡ Dot → suc i < length ls → IsKind spot ops ls 0 (suc i) f → QueryFault spot ops ls f
tail_stops spot ops ls i t f d e l k =
    let g = going_on (suc i) ls [] (omega (arith, l)) in
    let z = g.long in
    record {
      number = suc i;
      high = omega (arith, l);
      viable = record {
        text = g.text;
        agrees = g.agrees;
        tree = t;
        query = record { end = i; term = same_term ops (suc i) ls g.text g.agrees 0 i t (omega arith) d; rest = inr (class_same (suc i) i ls g.text g.agrees (omega arith) ∙ e, omega (arith, z)) };
      };
      first = λ m b.
          let h = b.agrees.long in
          let a = agree_less (suc i) (suc (suc i)) ls b.text (omega arith) b.agrees in
          longer_query ops b.text i t b.tree (same_term ops (suc i) ls b.text a 0 i t (omega arith) d) (class_same (suc i) i ls b.text a (omega arith) ∙ e) (omega (arith, h)) b.query;
      none = λ u q. longer_query ops ls i t u d e l q;
      kind = k;
    }

-- a query has one tree
pub one_query : (ops : Operators) (ls : List Lexeme) (t u : Tree) → IsQuery ops ls t → IsQuery ops ls u → t ≡ u
one_query ops ls t u p q = go (compared p.end q.end)
  where
    far : (t u : Tree) → (p : IsQuery ops ls t) → (q : IsQuery ops ls u) → p.end < q.end → ⊥
    far t u p q l = dots p.rest q.rest
      where
        dots : (p.end ≡ length ls) ⊎ ((class_at ls p.end ≡ Dot) × (suc p.end ≡ length ls)) → (q.end ≡ length ls) ⊎ ((class_at ls q.end ≡ Dot) × (suc q.end ≡ length ls)) → ⊥
        dots (inl e) (inl f) = omega (arith, e, f, l)
        dots (inl e) (inr f) = let h = f.1 in omega (arith, e, h, l)
        dots (inr e) f = over_dot ops ls 0 p.end t p.term e.0 q.end u l q.term

    go : Compared p.end q.end → t ≡ u
    go (less l) = absurd (far t u p q l)
    go (same e) = one_term ops ls 0 q.end t u (subst (λ m. TermAt ops ls 0 m t) e p.term) q.term
    go (more l) = absurd (far u t q p l)

pub tail_refused : (spot : ℕ → Spot) (ops : Operators) (ls : List Lexeme) (i : ℕ) (t : Tree) (f : SyntaxFault) → TermAt ops ls 0 i t → class_at ls i ≡ Dot → i + 1 < length ls → f ≡ refused spot (i + 1) None (class_at ls (i + 1)) → QueryFault spot ops ls f
tail_refused spot ops ls i t f d e l k =
    let z : i + 1 ≡ suc i = omega arith in
    let r = term_read ops ls 0 i t d in
    let g : f ≡ refused spot (suc i) (innermost (open_brackets ls 0 (suc i))) (class_at ls (suc i)) = subst
    (λ j. f ≡ refused spot j (innermost (open_brackets ls 0 j)) (class_at ls j)) z
    (k ∙ refused_there spot (i + 1) None (innermost (open_brackets ls 0 (i + 1))) (class_at ls (i + 1)) (class_there ls (i + 1) l)) in
    tail_stops spot ops ls i t f d e (omega (arith, l)) (kind_behind spot ops ls 0 i r.0 f r.1 (dot_no_colon ls i e) (ap (step r.0) (dot_symbol ops ls i e) ∙ other_stops r.0.frames r.0.mode) g)

-- a term up to its end, or to a full stop at the end
pub ended_query : (ops : Operators) (ls : List Lexeme) (i : ℕ) (t : Tree) → TermAt ops ls 0 i t → (i ≡ length ls) ⊎ ((class_at ls i ≡ Dot) × (suc i ≡ length ls)) → IsQuery ops ls t
ended_query ops ls i t d e = record { end = i; term = d; rest = e }

-- the fault of a term is one of the query
pub passed_query : {T : Type 0} (spot : ℕ → Spot) (ops : Operators) (ls : List Lexeme) (r : Result T SyntaxFault) (e : SyntaxFault) → IsErrAnd r (λ y. y ≡ e) → MemoryOr e (TermFault spot ops ls 0 e) → IfErr r (λ f. IsQueryRefusal spot ops ls f)
passed_query spot ops ls (Ok x) e is m = tt
passed_query spot ops ls (Err y) e is m = subst (IsQueryRefusal spot ops ls) (sym is) (go m)
  where
    go : MemoryOr e (TermFault spot ops ls 0 e) → IsQueryRefusal spot ops ls e
    go (inl k) = inl k
    go (inr k) = inr (inr (query_stops spot ops ls e k))

pub is_at_dot : (ls : List Lexeme) (i : ℕ) → i < length ls → IsOver ls i → class_at ls i ≡ Dot
is_at_dot ls i l (inl e) = absurd (omega (arith, e, l))
is_at_dot ls i l (inr e) = e

-- where there is a tree it is given
pub query_given : (spot : ℕ → Spot) (ops : Operators) (ls : List Lexeme) (r : Result RawQuery SyntaxFault) → IfOk r (IsQueryText spot ops ls) → IfErr r (IsQueryRefusal spot ops ls) → (t : Tree) → IsQuery ops ls t → IsGiven spot ls t r
query_given spot ops ls (Ok q) d e t k = let z = one_query ops ls d.tree t d.is k in (subst (Shows spot ls q.term.nodes.items q.term.root) z d.nodes, subst (TermFits ls) z d.fits)
query_given spot ops ls (Err f) d e t k = go e
  where
    go : IsQueryRefusal spot ops ls f → (f ≡ fault.Memory) ⊎ ((f ≡ fault.Limit Nesting) × TermTooDeep ls t)
    go (inl m) = inl m
    go (inr (inl l)) = inr (l.0, subst (TermTooDeep ls) (one_query ops ls l.1.0 t l.1.1 k) l.1.2)
    go (inr (inr z)) = absurd (z.none t k)
