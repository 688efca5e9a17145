-- The reply to a query, from how its answers were written.
use Rattle.std.proofs.Common.{◌≡◌, ℕ, suc, List, [], ◌++◌, Option, Some, Result, Ok, Err, Bool, false, None, ◌≢◌, refl, sym, ap, ◌∙◌, subst, inl, inr, arith}
use Rattle.std.specs.Prelude.{◌⊎◌, codes, slice_get, All, IfOk, IfErr, IfSome}
use Rattle.std.proofs.lemmas.Option.{slice_get_within, get_or_from_slice_get}
use Rattle.lp_base.specs.Counts.{Counts}
use Rattle.lp_base.specs.Written.{Appends, AppendsPrefix}
use Rattle.lp_model.specs.Shown.{Entry}
use Rattle.lp_model.specs.declared.ending.Ending.{Ending}
use Rattle.lp_model.specs.declared.ending.Ending.TheVariants as ending
use Rattle.lp_answers.specs.declared.stopped.Written.{Written}
use Rattle.lp_answers.specs.Texts.{AreAnswers, one_more, last_text, WroteCut, IsNext, MayReport}
use Rattle.lp_lines.proofs.Counting.{same_count}
use Rattle.lp_lines.proofs.Appending.{appends_nothing, prefix_longer}
use Rattle.lp_query.specs.declared.fault.AskRefusal.{AskRefusal}
use Rattle.lp_query.specs.declared.fault.AskRefusal.TheVariants as ask
use Rattle.lp_query.specs.Variables.{Reader, AreVariables}
use Rattle.lp_query.specs.Faults.{IsFirstMissing, IsAskRefusal, IsNotThere, IsUnwritten}
use Rattle.lp_query.specs.Outcomes.{ShowsVariables, Answered, Broke}
use Rattle.lp_query.proofs.Variables.{one_list}
use Rattle.std.specs.Global.{Global}
use Rattle.std.specs.Prelude.{Vec}
use Rattle.lp_base.specs.declared.status.Status.{Status}
use Rattle.lp_lines.specs.Placed.{IsOfText, IfSource}
use Rattle.lp_lines.specs.Refusals.{IsTextRefusal}
use Rattle.lp_lines.specs.declared.refusal.Refusal.TheVariants.{Line}
use Rattle.lp_session.specs.declared.replies.Reply.{Reply}
use Rattle.lp_session.specs.declared.replies.Reply.TheVariants as reply
use Rattle.lp_session.specs.declared.replies.ReplyRefusal.{ReplyRefusal}
use Rattle.lp_session.specs.declared.replies.ReplyRefusal.TheVariants.{Write, Memory}
use Rattle.lp_session.specs.Lines.{AreWholeLines}
use Rattle.lp_session.specs.Replies.{Meaning, NoneLacks, IsGiven, HasReplied, HasMissed, IsReplied, IsBroken, Same}
use Rattle.lp_ask.specs.Allowed.{Shows, IsRefusalOf, IsReplyTo, refused, answered, IsLacking, meaning_with, IsText, PutsLine, PutRefused, Comes}
use Rattle.lp_ask.proofs.Wholes.{whole_both, answers_whole, last_whole, refused_whole}

-- where each name to be shown is that of a variable, none lacks
pub none_lacks : (r : Reader) (query : List ℕ) (shown : List (List ℕ)) → ShowsVariables r query shown → (i : ℕ) → IsLacking r query shown i → ⊥
none_lacks r query shown (ns, (v, t)) i (ms, (w, m)) =
    let e : ms ≡ ns = one_list r query ms ns w v in
    let here = t m.place [] (slice_get_within shown m.place m.name m.there) in
    let p : slice_get ns here.0 ≡ Some m.name = here.1 ∙ ap Some (get_or_from_slice_get shown m.place m.name [] m.there) in
    let q : All (λ n. n ≢ m.name) ns = subst (λ z. All (λ n. n ≢ m.name) z) e m.missing in
    q here.0 [] (slice_get_within ns here.0 m.name p) (get_or_from_slice_get ns here.0 m.name [] p)

module _ (es : List Entry) (r : Reader) (query : List ℕ) where
  abbrev M : Meaning
  M = meaning_with es r

  shown_there : (shown : Option (List (List ℕ))) (names : List (List ℕ)) → Shows r query shown names → (reply : List ℕ) → IfSome shown (NoneLacks M query reply)
  shown_there None names s reply = tt
  shown_there (Some shown) names s reply = inr (none_lacks r query shown s.1)

  refusal_first : (shown : Option (List (List ℕ))) (reply : List ℕ) → IsRefusalOf query reply → IfSome shown (NoneLacks M query reply)
  refusal_first None reply h = tt
  refusal_first (Some shown) reply h = inl h

module _ (es : List Entry) (r : Reader) (query : List ℕ) (shown : Option (List (List ℕ))) (most : ℕ) where
  given : (names : List (List ℕ)) → Shows r query shown names → (n : ℕ) (text : List ℕ) (e : Ending) → AreAnswers es names n text → IsGiven (M es r query) query shown (text ++ last_text e []) n
  given names s n text e a = record {
    allowed_reply = answered names text e s a refl;
    none_lacks = shown_there es r query shown names s (text ++ last_text e []);
    whole = whole_both text (last_text e []) (answers_whole es names n text a) (last_whole e);
  }

  said : (reply : List ℕ) → IsRefusalOf query reply → IsGiven (M es r query) query shown reply 0
  said reply h = record {
    allowed_reply = refused h refl;
    none_lacks = refusal_first es r query shown reply h;
    whole = subst AreWholeLines (sym h.is) (refused_whole query h.said h.line h.refusal h.placed);
  }

  pub all_answered : (names : List (List ℕ)) → Shows r query shown names → (old new : Option (List ℕ)) (w : Written) → Answered es names false most old new w → HasReplied (M es r query) query shown old new w.answers
  all_answered names s old new w (reports, (f, a)) = record {
    reply = a.text ++ last_text w.ending [];
    given = given names s w.answers a.text w.ending a.answers;
    appended = subst (λ z. Appends old new (a.text ++ last_text w.ending z)) (f refl) a.appended;
  }

  cut_at : (names : List (List ℕ)) → Shows r query shown names → (old new : Option (List ℕ)) (b : WroteCut es names (MayReport false) most old new) → IsNext es names (MayReport false) b.count b.next → IsBroken (M es r query) query shown old new Write
  cut_at names s old new b (inl i) = (
    (b.text ++ b.next) ++ last_text ending.Deep [],
    (
      suc b.count,
      (
        given names s (suc b.count) (b.text ++ b.next) ending.Deep (one_more b.count b.text b.next (b.text ++ b.next) b.answers i refl),
        prefix_longer old new (b.text ++ b.next) (last_text ending.Deep []) b.appended,
      ),
    ),
  )
  cut_at names s old new b (inr (e, (reports, (f, x)))) =
      (b.text ++ last_text e [], (b.count, (given names s b.count b.text e b.answers, subst (λ z. AppendsPrefix old new (b.text ++ z)) (x ∙ ap (last_text e) (f refl)) b.appended)))

  cut_off : (names : List (List ℕ)) → Shows r query shown names → (old new : Option (List ℕ)) → Broke es names false most old new ask.Write → IsBroken (M es r query) query shown old new Write
  cut_off names s old new b = cut_at names s old new b b.is_next

  memory_off : (names : List (List ℕ)) → Shows r query shown names → (old new : Option (List ℕ)) → Broke es names false most old new ask.Memory → IsBroken (M es r query) query shown old new Memory
  memory_off names s old new (k, (few, w)) =
      (w.text, (answers_whole es names k w.text w.answers, (inr (last_text ending.Deep [], (k, given names s k w.text ending.Deep w.answers)), w.appended)))

  pub write_comes : (names : List (List ℕ)) (old new : Option (List ℕ)) (e : AskRefusal) → e ≡ ask.Write → Shows r query shown names ⊎ IsUnwritten old new e → Broke es names false most old new e → IsBroken (M es r query) query shown old new Write
  write_comes names old new e z (inl s) b = cut_off names s old new (subst (Broke es names false most old new) z b)
  write_comes names old new e z (inr u) b = absurd (u.0 z)

  pub memory_comes : (names : List (List ℕ)) (old new : Option (List ℕ)) (e : AskRefusal) → e ≡ ask.Memory → Shows r query shown names ⊎ IsUnwritten old new e → Broke es names false most old new e → IsBroken (M es r query) query shown old new Memory
  memory_comes names old new e z (inl s) b = memory_off names s old new (subst (Broke es names false most old new) z b)
  memory_comes names old new e z (inr u) b = ([], (inl refl, (inl refl, subst (λ o. Appends old o []) (sym u.1) (appends_nothing old))))

  pub put_comes : (old mid new : Option (List ℕ)) (x : Result Reply ReplyRefusal) → mid ≡ old → PutRefused query mid new x → Comes (M es r query) query shown old new x
  put_comes old mid new (Ok (reply.Written n)) e (z, (status, (line, (t, (p, a))))) = record {
    reply = line.items;
    given = subst (IsGiven (M es r query) query shown line.items) (sym z) (said line.items (record { said = status; line = line; refusal = t; placed = p; is = refl }));
    appended = subst (λ o. Appends o new line.items) e a;
  }
  put_comes old mid new (Ok (reply.NotThere i)) e h = absurd h
  put_comes old mid new (Err Write) e (status, (line, (t, (p, a)))) =
      (line.items, (0, (said line.items (record { said = status; line = line; refusal = t; placed = p; is = refl }), subst (λ o. AppendsPrefix o new line.items) e a)))
  put_comes old mid new (Err Memory) e h = ([], (inl refl, (inl refl, subst (λ o. Appends old o []) (sym (h ∙ e)) (appends_nothing old))))

-- what a broken off reply shows
pub of_these : (r : Reader) (query : List ℕ) (shown : List (List ℕ)) (P : Type 0) → ShowsVariables r query shown ⊎ P → Shows r query (Some shown) shown ⊎ P
of_these r query shown P (inl s) = inl (refl, s)
of_these r query shown P (inr p) = inr p

-- the first that is missing is one of those to be shown
pub missing_comes : (m : Meaning) (query : List ℕ) (names shown : List (List ℕ)) (i : ℕ) (old new : Option (List ℕ)) → IsFirstMissing names shown i → m.lacking query shown i → new ≡ old → HasMissed m query (Some shown) old new i
missing_comes m query names shown i old new f l e = record {
  names = shown;
  shown_names = refl;
  there = (let p = slice_get_within shown f.place f.name f.there in let n = f.number_is in omega (arith, p, n));
  lacks = l;
  appended = subst (λ o. Appends old o []) (sym e) (appends_nothing old);
}

pub comes_ok : (m : Meaning) (query : List ℕ) (shown : Option (List (List ℕ))) (old new : Option (List ℕ)) (r : Result Reply ReplyRefusal) → Comes m query shown old new r → IfOk r (IsReplied m query shown old new)
comes_ok m query shown old new (Ok x) h = h
comes_ok m query shown old new (Err e) h = tt

pub comes_err : (m : Meaning) (query : List ℕ) (shown : Option (List (List ℕ))) (old new : Option (List ℕ)) (r : Result Reply ReplyRefusal) → Comes m query shown old new r → IfErr r (IsBroken m query shown old new)
comes_err m query shown old new (Ok x) h = tt
comes_err m query shown old new (Err e) h = h

pub same_meaning : (es es' : List Entry) (r r' : Reader) → es' ≡ es → r' ≡ r → Same (meaning_with es r) (meaning_with es' r')
same_meaning es es' r r' e f = record {
  later = λ q s p n h. subst (λ z. IsReplyTo z r' q s p n) (sym e) (subst (λ z. IsReplyTo es z q s p n) (sym f) h);
  earlier = λ q s p n h. subst (λ z. IsReplyTo z r q s p n) e (subst (λ z. IsReplyTo es' z q s p n) f h);
  refuses_later = λ q p h. h;
  refuses_earlier = λ q p h. h;
  lacks_later = λ q s i h. subst (λ z. IsLacking z q s i) (sym f) h;
  lacks_earlier = λ q s i h. subst (λ z. IsLacking z q s i) f h;
}

-- a text that is refused: nothing was written
pub refused_still : (es : List Entry) (ns : List (List ℕ)) (watched : Bool) (most : ℕ) (old new : Option (List ℕ)) (e : AskRefusal) → IsText e → Broke es ns watched most old new e → new ≡ old
refused_still es ns w most old new (ask.Lex f) t h = h
refused_still es ns w most old new (ask.Syntax f) t h = h
refused_still es ns w most old new (ask.Infer f) t h = h
refused_still es ns w most old new (ask.Form f) t h = h
refused_still es ns w most old new (ask.Limit l) t h = h
refused_still es ns w most old new ask.Write t h = absurd t
refused_still es ns w most old new ask.Memory t h = absurd t
refused_still es ns w most old new (ask.NotThere i) t h = absurd t

pub text_not_write : (e : AskRefusal) → IsText e → e ≡ ask.Write → ⊥
text_not_write e t z = subst IsText z t

pub no_missing : (query : List ℕ) (e : AskRefusal) (n : ℕ) → e ≡ ask.NotThere n → IsAskRefusal query e → ⊥
no_missing query e n z h = subst (IsAskRefusal query) z h

-- a refusal where names are to be shown: of the query, or of these names
abbrev IsShownFault : Reader → List ℕ → List (List ℕ) → AskRefusal → Type 0
IsShownFault r query shown e = IsAskRefusal query e ⊎ ((names : List (List ℕ)) × (AreVariables r query names × IsNotThere names shown e))

-- of a refused text the refusal is one of the query
pub asked_text : (r : Reader) (query : List ℕ) (shown : List (List ℕ)) (e : AskRefusal) → IsText e → IsShownFault r query shown e → IsAskRefusal query e
asked_text r query shown e t (inl h) = h
asked_text r query shown (ask.Lex f) t (inr h) = absurd h.1.1
asked_text r query shown (ask.Syntax f) t (inr h) = absurd h.1.1
asked_text r query shown (ask.Infer f) t (inr h) = absurd h.1.1
asked_text r query shown (ask.Form f) t (inr h) = absurd h.1.1
asked_text r query shown (ask.Limit l) t (inr h) = absurd h.1.1
asked_text r query shown ask.Write t (inr h) = absurd t
asked_text r query shown ask.Memory t (inr h) = absurd t
asked_text r query shown (ask.NotThere i) t (inr h) = absurd t

pub missing_of : (r : Reader) (query : List ℕ) (shown : List (List ℕ)) (e : AskRefusal) (n : ℕ) → e ≡ ask.NotThere n → IsShownFault r query shown e → IsLacking r query shown n
missing_of r query shown e n z (inl h) = absurd (subst (IsAskRefusal query) z h)
missing_of r query shown e n z (inr (ns, (v, h))) = (ns, (v, subst (IsNotThere ns shown) z h))

pub put_refused : (query : List ℕ) (old new : Option (List ℕ)) (r : Result Reply ReplyRefusal) (said : Status) (line : Vec ℕ Global) → IsTextRefusal (Line said line) → IfSource (IsOfText (codes "query") query) (Line said line)
    → PutsLine line.items old new r → PutRefused query old new r
put_refused query old new (Ok (reply.Written n)) said line t p (z, a) = (z, (said, (line, (t, (p, a)))))
put_refused query old new (Ok (reply.NotThere i)) said line t p h = absurd h
put_refused query old new (Err Write) said line t p a = (said, (line, (t, (p, a))))
put_refused query old new (Err Memory) said line t p h = absurd h

-- a refused text is no failed piece: the count behind it goes on from the count in front of it
pub still_faults : (e : AskRefusal) (P : Type 0) (o m n : ℕ) → IsText e → Counts (◌≡◌ {A = Result Written AskRefusal} (Err e) (Err ask.Write)) o m → Counts P m n → Counts P o n
still_faults e P o m n t c d =
    subst (λ z. Counts P z n) (same_count (◌≡◌ {A = Result Written AskRefusal} (Err e) (Err ask.Write)) o m c (λ q. let z : e ≡ ask.Write = cc in text_not_write e t z)) d
