-- A session line by line.
use Rattle.std.proofs.Common.{◌≡◌, ℕ, ◌+◌, ◌^◌, ◌<◌, List, [], ◌∷◌, ◌++◌, true, false, Option, Some, None, Result, Ok, Err, refl, sym, ap, ◌∙◌, subst, arith, inl, inr, append_assoc, append-nil}
use Rattle.std.specs.Prelude.{IsErrAnd, IfSome, codes, decimal}
use Rattle.lp_base.specs.Written.{Appends, AppendsPrefix}
use Rattle.lp_session.specs.declared.serving.SessionRefusal.{SessionRefusal}
use Rattle.lp_session.specs.declared.serving.SessionRefusal.TheVariants.{Write, Memory}
use Rattle.lp_session.specs.declared.serving.Summary.{Summary}
use Rattle.lp_session.specs.Lines.{lines_of, is_blank, AreWholeLines}
use Rattle.lp_session.specs.Form.{piece}
use Rattle.lp_session.specs.Said.{query_line, unexpected_line, undeclared_line, summary_line}
use Rattle.lp_session.specs.Replies.{Meaning, NoneLacks, IsGiven, Same}
use Rattle.lp_session.specs.Served.{column_at, IsReply, plain, printed, undeclared, unfit, BeginsReply, Replied, sum_of, Turn, skipped, asked, Served, nothing, one_more, IsSession, IsNext, IsNextWhole, IsCut, IsCutWhole, IsBrokenOff, Turned}
use Rattle.lp_session.proofs.Appending.{appends_nothing, appends_both, prefix_behind, whole_both}

query_whole : (k : ℕ) → AreWholeLines (query_line k)
unfolding query_line
query_whole k = inr (codes "query " ++ decimal k, refl)

reply_whole : (M : Meaning) (line reply : List ℕ) (n : ℕ) → IsReply M line reply n → AreWholeLines reply
unfolding unexpected_line undeclared_line
reply_whole M line reply n (plain _ _ p g) = g.whole
reply_whole M line reply n (printed _ _ _ _ _ f g) = g.whole
reply_whole M line reply _ (undeclared dot to ts i t _ f l h e) = inr (codes "source: query:1:" ++ decimal (column_at line t.from) ++ codes ": undeclared name " ++ piece line t.from t.to, e)
reply_whole M line reply _ (unfit at ts _ f e) =
    inr (codes "source: query:1:" ++ decimal (column_at line at) ++ codes ": unexpected token", e ∙ sym (append_assoc (codes "source: query:1:" ++ decimal (column_at line at)) (codes ": unexpected token") (10 ∷ [])))

turn_whole : (M : Meaning) (line : List ℕ) (k : ℕ) (text : List ℕ) (k' n : ℕ) → Turn M line k text k' n → AreWholeLines text
turn_whole M line k text k' n (skipped _ b e) = inl e
turn_whole M line k text k' n (asked _ reply _ _ b r e q) = subst AreWholeLines (sym e) (whole_both (query_line (k + 1)) reply (query_whole (k + 1)) (reply_whole M line reply n r))

-- what is written for one line
module _ (M : Meaning) (line : List ℕ) where
  sum_none : (a : ℕ) → a < 2 ^ 64 → a ≡ sum_of a 0
  sum_none a h = omega (arith, h)

  pub turn_blank : (s : Summary) (o : Option (List ℕ)) → is_blank line ≡ true → s.answers < 2 ^ 64 → Turned M line s s o o (Ok tt)
  turn_blank s o b h = ([], (0, (skipped [] b refl, (sum_none s.answers h, appends_nothing o))))

  pub turn_before : (s s' : Summary) (o : Option (List ℕ)) → Turned M line s s' o o (Err Memory)
  turn_before s s' o = ([], (inl refl, (inl refl, appends_nothing o)))

  module _ (s s' : Summary) (old mid new : Option (List ℕ)) (piece : List ℕ) (b : is_blank line ≡ false) (e : piece ≡ query_line (s.queries + 1)) where
    pub turn_cut : AppendsPrefix old new piece → Turned M line s s' old new (Err Write)
    turn_cut h = (piece, ((b, inl e), h))

    pub turn_replied : (n : ℕ) → Appends old mid piece → Replied M line mid new (Ok n) → s'.queries ≡ s.queries + 1 → s'.answers ≡ sum_of s.answers n → Turned M line s s' old new (Ok tt)
    turn_replied n h (r, (i, a)) q w =
        (query_line (s.queries + 1) ++ r, (n, (asked (query_line (s.queries + 1) ++ r) r s'.queries n b i refl q, (w, appends_both old mid new (query_line (s.queries + 1)) r (subst (Appends old mid) e h) a))))

    pub turn_broken : (y : SessionRefusal) → Appends old mid piece → Replied M line mid new (Err y) → Turned M line s s' old new (Err y)
    turn_broken Write h (r, (n, (i, a))) =
        (query_line (s.queries + 1) ++ r, ((b, inr (r, (n, (i, refl)))), prefix_behind old mid new (query_line (s.queries + 1)) r (subst (Appends old mid) e h) a))
    turn_broken Memory h (r, (w, (g, a))) = (
      query_line (s.queries + 1) ++ r,
      (
        whole_both (query_line (s.queries + 1)) r (query_whole (s.queries + 1)) w,
        (inr (b, (r, (w, (g, refl)))), appends_both old mid new (query_line (s.queries + 1)) r (subst (Appends old mid) e h) a),
      ),
    )

  pub turn_error : (s s' : Summary) (old new : Option (List ℕ)) (r : Result Unit SessionRefusal) (y : SessionRefusal) → IsErrAnd r (λ z. z ≡ y) → Turned M line s s' old new (Err y) → Turned M line s s' old new r
  turn_error s s' old new (Ok u) y h t = absurd h
  turn_error s s' old new (Err z) y h t = subst (λ z. Turned M line s s' old new (Err z)) (sym h) t

-- what is allowed and lacks now did so at first
module _ (M0 M : Meaning) (same : Same M0 M) where
  none_first : (q : List ℕ) (s : Option (List (List ℕ))) (r : List ℕ) → IfSome s (NoneLacks M q r) → IfSome s (NoneLacks M0 q r)
  none_first q None r h = tt
  none_first q (Some names) r (inl h) = inl (same.refuses_earlier q r h)
  none_first q (Some names) r (inr h) = inr (λ i l. h i (same.lacks_later q names i l))

  given_first : (q : List ℕ) (s : Option (List (List ℕ))) (r : List ℕ) (n : ℕ) → IsGiven M q s r n → IsGiven M0 q s r n
  given_first q s r n g = record { allowed_reply = same.earlier q s r n g.allowed_reply; none_lacks = none_first q s r g.none_lacks; whole = g.whole }

  reply_first : (line r : List ℕ) (n : ℕ) → IsReply M line r n → IsReply M0 line r n
  reply_first line r n (plain _ _ p g) = plain r n p (given_first _ _ r n g)
  reply_first line r n (printed dot to ts _ _ f g) = printed dot to ts r n f (given_first _ _ r n g)
  reply_first line r _ (undeclared dot to ts i t _ f l h e) = undeclared dot to ts i t r f (same.lacks_earlier _ _ i l) h e
  reply_first line r _ (unfit at ts _ f e) = unfit at ts r f e

  begins_first : (line b : List ℕ) → BeginsReply M line b → BeginsReply M0 line b
  begins_first line b (inl e) = inl e
  begins_first line b (inr (rest, (n, i))) = inr (rest, (n, reply_first line (b ++ rest) n i))

  turn_first : (line : List ℕ) (k : ℕ) (text : List ℕ) (k' n : ℕ) → Turn M line k text k' n → Turn M0 line k text k' n
  turn_first line k text k' n (skipped _ b e) = skipped text b e
  turn_first line k text k' n (asked _ reply _ _ b r e q) = asked text reply k' n b (reply_first line reply n r) e q

  next_first : (line : List ℕ) (lines : List (List ℕ)) (k a : ℕ) (text : List ℕ) → IsNext M (line ∷ []) k a text → IsNext M0 (line ∷ lines) k a text
  next_first line lines k a text (b, inl e) = (b, inl e)
  next_first line lines k a text (b, inr (r, (n, (i, e)))) = (b, inr (r, (n, (reply_first line r n i, e))))

  next_whole_first : (line : List ℕ) (lines : List (List ℕ)) (k : ℕ) (text : List ℕ) → IsNextWhole M (line ∷ []) k text → IsNextWhole M0 (line ∷ lines) k text
  next_whole_first line lines k text (inl e) = inl e
  next_whole_first line lines k text (inr (b, (r, (w, (g, e))))) = inr (b, (r, (w, (begins_first line r g, e))))

-- some lines are done
pub record Halfway (M0 M : Meaning) (lines : List ℕ) (rest : List (List ℕ)) (s : Summary) (old now : Option (List ℕ)) : Type 0 where
  pub done : List (List ℕ)
  pub all : lines_of lines ≡ done ++ rest
  pub text : List ℕ
  pub served : Served M0 done text s.queries s.answers
  pub whole : AreWholeLines text
  pub appended : Appends old now text
  pub same : Same M0 M

pub still_same : (M : Meaning) → Same M M
still_same M = record { later = λ q s r n h. h; earlier = λ q s r n h. h; refuses_later = λ q r h. h; refuses_earlier = λ q r h. h; lacks_later = λ q s i h. h; lacks_earlier = λ q s i h. h }

pub same_then : (M N O : Meaning) → Same M N → Same N O → Same M O
same_then M N O f g = record {
  later = λ q s r n h. g.later q s r n (f.later q s r n h);
  earlier = λ q s r n h. f.earlier q s r n (g.earlier q s r n h);
  refuses_later = λ q r h. g.refuses_later q r (f.refuses_later q r h);
  refuses_earlier = λ q r h. f.refuses_earlier q r (g.refuses_earlier q r h);
  lacks_later = λ q s i h. g.lacks_later q s i (f.lacks_later q s i h);
  lacks_earlier = λ q s i h. f.lacks_earlier q s i (g.lacks_earlier q s i h);
}

pub at_first : (M : Meaning) (lines : List ℕ) (o : Option (List ℕ)) → Halfway M M lines (lines_of lines) (record { queries = 0; answers = 0 }) o o
at_first M lines o = record { done = []; all = refl; text = []; served = nothing; whole = inl refl; appended = appends_nothing o; same = still_same M }

module _ (M0 M : Meaning) (lines : List ℕ) (rest : List (List ℕ)) (s : Summary) (old mid : Option (List ℕ)) (h : Halfway M0 M lines rest s old mid) where
  module _ (line : List ℕ) (lines' : List (List ℕ)) (e : rest ≡ line ∷ lines') (new : Option (List ℕ)) (s' : Summary) where
    pub one_line : (M' : Meaning) → Turned M line s s' mid new (Ok tt) → Same M M' → Halfway M0 M' lines lines' s' old new
    one_line M' (text, (n, (t, (w, a)))) f = record {
      done = h.done ++ line ∷ [];
      all = h.all ∙ (ap (λ z. h.done ++ z) e ∙ sym (append_assoc h.done (line ∷ []) lines'));
      text = h.text ++ text;
      served = one_more h.done line (h.done ++ line ∷ []) h.text text (h.text ++ text) s.queries s'.queries s.answers n s'.answers h.served (turn_first M0 M h.same line s.queries text s'.queries n t) refl refl w;
      whole = whole_both h.text text h.whole (turn_whole M line s.queries text s'.queries n t);
      appended = appends_both old mid new h.text text h.appended a;
      same = same_then M0 M M' h.same f;
    }

    pub broken_off : (y : SessionRefusal) → Turned M line s s' mid new (Err y) → IsBrokenOff M0 lines old new y
    broken_off Write (text, (x, a)) = record {
      done = h.done;
      rest = line ∷ lines';
      all = h.all ∙ ap (λ z. h.done ++ z) e;
      before = h.text;
      queries = s.queries;
      answers = s.answers;
      served = h.served;
      text = text;
      next = next_first M0 M h.same line lines' s.queries s.answers text x;
      appended = prefix_behind old mid new h.text text h.appended a;
    }
    broken_off Memory (text, (w, (x, a))) = record {
      done = h.done;
      rest = line ∷ lines';
      all = h.all ∙ ap (λ z. h.done ++ z) e;
      before = h.text;
      queries = s.queries;
      answers = s.answers;
      served = h.served;
      text = text;
      next = next_whole_first M0 M h.same line lines' s.queries text x;
      whole = whole_both h.text text h.whole w;
      appended = appends_both old mid new h.text text h.appended a;
    }

  module _ (e : rest ≡ []) where
    all_done : lines_of lines ≡ h.done
    all_done = h.all ∙ (ap (λ z. h.done ++ z) e ∙ append-nil h.done)

    pub session_over : (new : Option (List ℕ)) (text : List ℕ) → text ≡ summary_line s.queries s.answers → Appends mid new text → IsSession M0 lines old new s
    session_over new text x a = record {
      text = h.text;
      served = subst (λ z. Served M0 z h.text s.queries s.answers) (sym all_done) h.served;
      appended = appends_both old mid new h.text (summary_line s.queries s.answers) h.appended (subst (Appends mid new) x a);
    }

    pub summary_cut : (new : Option (List ℕ)) (text : List ℕ) → text ≡ summary_line s.queries s.answers → AppendsPrefix mid new text → IsCut M0 lines old new
    summary_cut new text x a = record {
      done = h.done;
      rest = [];
      all = h.all ∙ ap (λ z. h.done ++ z) e;
      before = h.text;
      queries = s.queries;
      answers = s.answers;
      served = h.served;
      text = text;
      next = x;
      appended = prefix_behind old mid new h.text text h.appended a;
    }

    pub summary_memory : IsCutWhole M0 lines old mid
    summary_memory = record {
      done = h.done;
      rest = [];
      all = h.all ∙ ap (λ z. h.done ++ z) e;
      before = h.text;
      queries = s.queries;
      answers = s.answers;
      served = h.served;
      text = [];
      next = refl;
      whole = subst AreWholeLines (sym (append-nil h.text)) h.whole;
      appended = subst (Appends old mid) (sym (append-nil h.text)) h.appended;
    }
