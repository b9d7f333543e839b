-- The text of a response put together, and bytes written piece by piece.
use Rattle.std.proofs.Common.{◌≡◌, ℕ, ◌+◌, ◌-◌, Bool, true, false, List, [], ◌∷◌, ◌++◌, length, take, drop, refl, sym, ap, ◌∙◌, append_assoc, take-add}
use Rattle.std.specs.Prelude.{decimal, codes, Option, Some, None, Err}
use Rattle.std.specs.Option.{option_map}
use Rattle.std.proofs.lemmas.List.{take_rest}
use Rattle.sheets_http.specs.declared.outside.SinkFault.{SinkFault}
use Rattle.sheets_http.specs.declared.outside.SinkFault.TheVariants as fault
use Rattle.sheets_http.specs.Outside.{Takes, TakesSome}
use Rattle.sheets_http.specs.Responses.{phrase_of, connection_line, text_of_response}

-- ---- a response

-- the head as it is formatted
abbrev pub formatted : ℕ → List ℕ → ℕ → List ℕ → List ℕ
formatted status phrase size close_line =
    codes "HTTP/1.1 " ++ (decimal status
    ++ (codes " " ++ (phrase ++ (codes "\r\nContent-Type: application/json; charset=UTF-8\r\nContent-Length: "
    ++ (decimal size ++ (codes "\r\n" ++ (close_line ++ codes "\r\n")))))))

-- the pieces of a head, with the body behind the last
behind_pieces : (a b c d e f g h i body : List ℕ)
    → (a ++ (b ++ (c ++ (d ++ (e ++ (f ++ (g ++ (h ++ i)))))))) ++ body
    ≡ a ++ (b ++ (c ++ (d ++ (e ++ (f ++ (g ++ (h ++ (i ++ body))))))))
behind_pieces a b c d e f g h i body = simp append_assoc

-- the pieces of the status line and of a length, with the rest behind
behind_status : (a b c d rest : List ℕ) → (a ++ b ++ c ++ d) ++ rest ≡ a ++ (b ++ (c ++ (d ++ rest)))
behind_status a b c d rest = simp append_assoc

put_together : (close : Bool) (status : ℕ) (phrase body : List ℕ) → phrase ≡ phrase_of status
    → formatted status phrase (length body) (connection_line close []) ++ body ≡ text_of_response status close body
put_together close status phrase body p =
    rw p (
    behind_pieces (codes "HTTP/1.1 ") (decimal status) (codes " ") (phrase_of status)
    (codes "\r\nContent-Type: application/json; charset=UTF-8\r\nContent-Length: ") (decimal (length body))
    (codes "\r\n") (connection_line close []) (codes "\r\n") body
    ∙ ap (λ (t : List ℕ). codes "HTTP/1.1 " ++ (decimal status ++ (codes " " ++ (phrase_of status
    ++ (codes "\r\nContent-Type: application/json; charset=UTF-8\r\nContent-Length: "
    ++ (decimal (length body) ++ (codes "\r\n" ++ t))))))) (closed_line close body)
    ∙ ap (λ (t : List ℕ). codes "HTTP/1.1 " ++ (decimal status ++ (codes " " ++ (phrase_of status
    ++ (codes "\r\nContent-Type: application/json; charset=UTF-8\r\n" ++ t)))))
    (sym (append_assoc (codes "Content-Length: ") (decimal (length body))
    (codes "\r\n" ++ connection_line close (13 ∷ 10 ∷ body))))
    ∙ sym (behind_status (codes "HTTP/1.1 ") (decimal status) (codes " ") (phrase_of status)
    (13 ∷ 10 ∷ (codes "Content-Type: application/json; charset=UTF-8" ++ 13 ∷ 10 ∷
    ((codes "Content-Length: " ++ decimal (length body)) ++ 13 ∷ 10 ∷ connection_line close (13 ∷ 10 ∷ body)))))
    )
  where
    closed_line : (close : Bool) (body : List ℕ)
        → connection_line close [] ++ (codes "\r\n" ++ body) ≡ connection_line close (13 ∷ 10 ∷ body)
    closed_line true body = refl
    closed_line false body = refl

-- the head and the body are the text
pub whole_text : (close : Bool) (status : ℕ) (phrase close_line head body text : List ℕ)
    → phrase ≡ phrase_of status → close_line ≡ connection_line close []
    → head ≡ formatted status phrase (length body) close_line → text ≡ head ++ body
    → text ≡ text_of_response status close body
whole_text close status phrase close_line head body text p l h t =
    t ∙ ap (λ (s : List ℕ). s ++ body) (h ∙ ap (formatted status phrase (length body)) l)
    ∙ put_together close status phrase body p

-- ---- pieces

-- a piece behind those that were written
pub sent_more : (start before after : Option (List ℕ)) (bytes : List ℕ) (sent count : ℕ)
    → before ≡ option_map (λ b. b ++ take sent bytes) start
    → after ≡ option_map (λ b. b ++ take count (take (length bytes - sent) (drop sent bytes))) before
    → after ≡ option_map (λ b. b ++ take (sent + count) bytes) start
sent_more None before after bytes sent count e f =
    f ∙ ap (option_map (λ b. b ++ take count (take (length bytes - sent) (drop sent bytes)))) e
sent_more (Some start) before after bytes sent count e f =
    f ∙ ap (option_map (λ b. b ++ take count (take (length bytes - sent) (drop sent bytes)))) e
    ∙ rw (take_rest bytes sent, append_assoc, ← take-add sent count bytes)

-- what a failed write leaves
pub sent_some : (start before after : Option (List ℕ)) (bytes : List ℕ) (sent : ℕ) (why : SinkFault)
    → before ≡ option_map (λ b. b ++ take sent bytes) start
    → Takes before after (take (length bytes - sent) (drop sent bytes)) (Err why) → TakesSome start after bytes
sent_some start before after bytes sent fault.NoMemory e f = (sent, f ∙ e)
sent_some start before after bytes sent fault.Failed e (count, f) =
    (sent + count, sent_more start before after bytes sent count e f)
