-- What a session writes, line by line.
use Rattle.std.specs.Prelude.{◌≡◌, ◌≢◌, ℕ, ◌+◌, ◌-◌, ◌^◌, List, [], ◌∷◌, ◌++◌, map, take, drop, replicate, min, true, false, Option, Some, None, slice_get, Result, Ok, Err, ◌⊎◌}
use Rattle.lp_base.specs.Written.{Appends, AppendsPrefix}
use Rattle.lp_lexer.specs.declared.token.Token.{Token}
use Rattle.lp_lexer.specs.declared.token.LexFault.{LexFault}
use Rattle.lp_lexer.specs.declared.token.LexFault.TheVariants as fault
use Rattle.lp_lexer.specs.Lexis.{place_at, HasTokens, HasFault}
use Rattle.lp_session.specs.declared.form.Form.{Form}
use Rattle.lp_session.specs.declared.form.Form.TheVariants.{Plain, Printed, Unfit}
use Rattle.lp_session.specs.declared.replies.ReplyRefusal.{ReplyRefusal}
use Rattle.lp_session.specs.declared.replies.ReplyRefusal.TheVariants as reply
use Rattle.lp_session.specs.declared.serving.SessionRefusal.{SessionRefusal}
use Rattle.lp_session.specs.declared.serving.SessionRefusal.TheVariants.{Write, Memory}
use Rattle.lp_session.specs.declared.serving.Summary.{Summary}
use Rattle.lp_session.specs.Lines.{lines_of, is_blank, AreWholeLines}
use Rattle.lp_session.specs.Form.{piece, form_of}
use Rattle.lp_session.specs.Said.{query_line, unexpected_line, undeclared_line, summary_line}
use Rattle.lp_session.specs.Replies.{Meaning, IsGiven}

-- the tokens of a line that has this form
pub record HasForm (line : List ℕ) (f : Form) (tokens : List Token) : Type 0 where
  pub read : HasTokens line tokens
  pub form_is : form_of line tokens ≡ f

-- a line with a fault of tokens, or with no `print` in front, is a query as it stands
abbrev pub IsPlain : List ℕ → Type 0
IsPlain line = ((f : LexFault) × ((f ≢ fault.Memory) × HasFault line f)) ⊎ ((tokens : List Token) × HasForm line Plain tokens)

-- of `print`, names, a dot and a query: the tokens of the names
abbrev pub names_at : (dot : ℕ) → List Token → List Token
names_at dot tokens = take (dot - 1) (drop 1 tokens)

abbrev pub names_in : List ℕ → List Token → List (List ℕ)
names_in line names = map (λ t. piece line t.from t.to) names

-- the line with spaces for all up to the dot
abbrev pub behind_dot : List ℕ → (to : ℕ) → List ℕ
behind_dot line to = replicate to 32 ++ drop to line

-- the column of a byte, from 1
abbrev pub column_at : List ℕ → ℕ → ℕ
column_at line at = (place_at line at).column

-- the reply to a line, with the number of its answers
pub data IsReply (m : Meaning) (line : List ℕ) : List ℕ → ℕ → Type 0 where
  plain : (reply : List ℕ) (n : ℕ) → IsPlain line → IsGiven m line None reply n → IsReply m line reply n
  printed : (dot to : ℕ) (tokens : List Token) (reply : List ℕ) (n : ℕ) → HasForm line (Printed dot to) tokens
      → IsGiven m (behind_dot line to) (Some (names_in line (names_at dot tokens))) reply n → IsReply m line reply n
  undeclared : (dot to : ℕ) (tokens : List Token) (i : ℕ) (t : Token) (reply : List ℕ) → HasForm line (Printed dot to) tokens
      → m.lacking (behind_dot line to) (names_in line (names_at dot tokens)) i → slice_get (names_at dot tokens) i ≡ Some t
      → reply ≡ undeclared_line (column_at line t.from) (piece line t.from t.to) → IsReply m line reply 0
  unfit : (at : ℕ) (tokens : List Token) (reply : List ℕ) → HasForm line (Unfit at) tokens → reply ≡ unexpected_line (column_at line at) → IsReply m line reply 0

-- whole lines that begin a reply to a line; nothing may come of no reply
abbrev pub BeginsReply : Meaning → List ℕ → List ℕ → Type 0
BeginsReply m line begun = (begun ≡ []) ⊎ ((rest : List ℕ) × ((n : ℕ) × IsReply m line (begun ++ rest) n))

abbrev pub refused : ReplyRefusal → SessionRefusal
refused reply.Write = Write
refused reply.Memory = Memory

-- what was written in reply to a line
abbrev pub Replied : Meaning → List ℕ → (old new : Option (List ℕ)) → Result ℕ SessionRefusal → Type 0
Replied m line old new (Ok n) = (reply : List ℕ) × (IsReply m line reply n × Appends old new reply)
Replied m line old new (Err Write) = (reply : List ℕ) × ((n : ℕ) × (IsReply m line reply n × AppendsPrefix old new reply))
Replied m line old new (Err Memory) = (begun : List ℕ) × (AreWholeLines begun × (BeginsReply m line begun × Appends old new begun))

-- a reply without answers was written, or a prefix of it
abbrev pub Says : List ℕ → (old new : Option (List ℕ)) → Result ℕ SessionRefusal → Type 0
Says text old new (Ok n) = (n ≡ 0) × Appends old new text
Says text old new (Err e) = (e ≡ Write) × AppendsPrefix old new text

-- a sum of answers that is kept in 64 bits
abbrev pub sum_of : ℕ → ℕ → ℕ
sum_of a n = min (a + n) (2 ^ 64 - 1)

-- what a session writes for a line that k queries go before, with the number of queries behind it and of the line's answers
pub data Turn (m : Meaning) (line : List ℕ) (k : ℕ) : List ℕ → ℕ → ℕ → Type 0 where
  skipped : (text : List ℕ) → is_blank line ≡ true → text ≡ [] → Turn m line k text k 0
  asked : (text reply : List ℕ) (k' n : ℕ) → is_blank line ≡ false → IsReply m line reply n → text ≡ query_line (k + 1) ++ reply → k' ≡ k + 1 → Turn m line k text k' n

-- what a session writes for lines, with the numbers of queries and answers
pub data Served (m : Meaning) : List (List ℕ) → List ℕ → ℕ → ℕ → Type 0 where
  nothing : Served m [] [] 0 0
  one_more : (lines : List (List ℕ)) (line : List ℕ) (all : List (List ℕ)) (before text both : List ℕ) (k k' a n a' : ℕ) → Served m lines before k a → Turn m line k text k' n
      → all ≡ lines ++ line ∷ [] → both ≡ before ++ text → a' ≡ sum_of a n → Served m all both k' a'

-- a whole session: what it writes for its lines, and the summary
pub record IsSession (m : Meaning) (lines : List ℕ) (old new : Option (List ℕ)) (summary : Summary) : Type 0 where
  pub text : List ℕ
  pub served : Served m (lines_of lines) text summary.queries summary.answers
  pub appended : Appends old new (text ++ summary_line summary.queries summary.answers)

-- what may be written next: behind the last line the summary, else what a line begins with
abbrev pub IsNext : Meaning → List (List ℕ) → (k a : ℕ) → List ℕ → Type 0
IsNext m [] k a text = text ≡ summary_line k a
IsNext m (line ∷ lines) k a text = (is_blank line ≡ false) × ((text ≡ query_line (k + 1)) ⊎ ((reply : List ℕ) × ((n : ℕ) × (IsReply m line reply n × (text ≡ query_line (k + 1) ++ reply)))))

-- the same where it broke off behind a whole line
abbrev pub IsNextWhole : Meaning → List (List ℕ) → (k : ℕ) → List ℕ → Type 0
IsNextWhole m [] k text = text ≡ []
IsNextWhole m (line ∷ lines) k text = (text ≡ []) ⊎ ((is_blank line ≡ false) × ((begun : List ℕ) × (AreWholeLines begun × (BeginsReply m line begun × (text ≡ query_line (k + 1) ++ begun)))))

-- the session broke off: some lines are done, and of what is next a prefix was appended
pub record IsCut (m : Meaning) (lines : List ℕ) (old new : Option (List ℕ)) : Type 0 where
  pub done : List (List ℕ)
  pub rest : List (List ℕ)
  pub all : lines_of lines ≡ done ++ rest
  pub before : List ℕ
  pub queries : ℕ
  pub answers : ℕ
  pub served : Served m done before queries answers
  pub text : List ℕ
  pub next : IsNext m rest queries answers text
  pub appended : AppendsPrefix old new (before ++ text)

-- the same behind a whole line
pub record IsCutWhole (m : Meaning) (lines : List ℕ) (old new : Option (List ℕ)) : Type 0 where
  pub done : List (List ℕ)
  pub rest : List (List ℕ)
  pub all : lines_of lines ≡ done ++ rest
  pub before : List ℕ
  pub queries : ℕ
  pub answers : ℕ
  pub served : Served m done before queries answers
  pub text : List ℕ
  pub next : IsNextWhole m rest queries text
  pub whole : AreWholeLines (before ++ text)
  pub appended : Appends old new (before ++ text)

abbrev pub IsBrokenOff : Meaning → List ℕ → (old new : Option (List ℕ)) → SessionRefusal → Type 0
IsBrokenOff m lines old new Write = IsCut m lines old new
IsBrokenOff m lines old new Memory = IsCutWhole m lines old new

-- what was written for a line that k queries with so many answers go before
abbrev pub Turned : Meaning → List ℕ → (before after : Summary) → (old new : Option (List ℕ)) → Result Unit SessionRefusal → Type 0
Turned m line s s' old new (Ok u) = (text : List ℕ) × ((n : ℕ) × (Turn m line s.queries text s'.queries n × ((s'.answers ≡ sum_of s.answers n) × Appends old new text)))
Turned m line s s' old new (Err Write) = (text : List ℕ) × (IsNext m (line ∷ []) s.queries s.answers text × AppendsPrefix old new text)
Turned m line s s' old new (Err Memory) = (text : List ℕ) × (AreWholeLines text × (IsNextWhole m (line ∷ []) s.queries text × Appends old new text))
