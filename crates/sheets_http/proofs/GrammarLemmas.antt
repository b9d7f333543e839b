-- A head that was printed ends with its first empty line, and has two lines more than it has fields.
use Rattle.std.proofs.Common.{◌≡◌, ℕ, ◌+◌, ◌-◌, ◌<◌, ◌≤◌, inl, inr, true, false, List, [], ◌∷◌, ◌++◌, length, take, drop, refl, sym, ap, ◌∙◌, subst, arith, append_assoc, append-nil}
use Rattle.std.specs.Prelude.{nat_eq, Some, Result, option_copied, map}
use Rattle.std.specs.List.{flat_map, ends_with}
use Rattle.std.proofs.lemmas.Bool.{cases_lt, or_left, or_right}
use Rattle.std.proofs.lemmas.List.{drop_at, take_at, length-append, nil_from_length}
use Rattle.httparse.specs.Grammar.{LineEnd, crlf, lf, print_end, Field, print_field, print_blank, print_version, print_section, RequestHead, print_request, ReadsRequest}
use Rattle.httparse.specs.declared.borrowed.Request.{Request}
use Rattle.httparse.specs.Borrowed.{header_parts, HoldsSomeRequest}
use Rattle.httparse.specs.Spans.{RequestOverflows}
use Rattle.sheets_http.specs.Heads.{ends_with_empty_line, line_feeds, IsNoHead}
use Rattle.sheets_http.specs.declared.summary.HeadSummary.{HeadSummary}
use Rattle.sheets_http.specs.declared.summary.HeadError.{HeadError}
use Rattle.sheets_http.specs.HeadReading.{IsHeadText, SummaryOf, ReadsHead, of_head_text}
use Rattle.sheets_http.proofs.HeadLemmas.{line_feeds-append}

-- ---- where it ends

-- the last byte is an LF
abbrev EndsInFeed : List ℕ → Type 0
EndsInFeed bytes = (line : List ℕ) × (bytes ≡ line ++ 10 ∷ [])

end_feed : (e : LineEnd) → EndsInFeed (print_end e)
end_feed crlf = (13 ∷ [], refl)
end_feed lf = ([], refl)

feed_behind : (a b : List ℕ) → EndsInFeed b → EndsInFeed (a ++ b)
feed_behind a b e = (a ++ e.0, ap (λ (t : List ℕ). a ++ t) e.1 ∙ sym (append_assoc a e.0 (10 ∷ [])))

field_feed : (f : Field) → EndsInFeed (print_field f)
field_feed f = feed_behind _ (print_end f.end) (end_feed f.end)

fields_feed : (z : List ℕ) (fields : List Field) → EndsInFeed z → EndsInFeed (z ++ flat_map print_field fields)
fields_feed z [] e = subst EndsInFeed (sym (append-nil z)) e
fields_feed z (f ∷ fields) e =
    subst EndsInFeed (append_assoc z (print_field f) (flat_map print_field fields))
    (fields_feed (z ++ print_field f) fields (feed_behind z (print_field f) (field_feed f)))

ends_with_back : (y t : List ℕ) → drop (length (y ++ t) - length t) (y ++ t) ≡ t
ends_with_back y t = drop_at y t (length (y ++ t) - length t) (omega (arith, length-append y t))

empty_line : (z : List ℕ) (last : LineEnd) → EndsInFeed z → ends_with_empty_line (z ++ print_end last) ≡ true
empty_line z crlf e =
    let same : z ++ 13 ∷ 10 ∷ [] ≡ e.0 ++ 10 ∷ 13 ∷ 10 ∷ [] =
    ap (λ (t : List ℕ). t ++ 13 ∷ 10 ∷ []) e.1 ∙ append_assoc e.0 (10 ∷ []) (13 ∷ 10 ∷ []) in
    ap ends_with_empty_line same
    ∙ or_right (ends_with nat_eq (e.0 ++ 10 ∷ 13 ∷ 10 ∷ []) (10 ∷ 10 ∷ []))
    (ends_with nat_eq (e.0 ++ 10 ∷ 13 ∷ 10 ∷ []) (10 ∷ 13 ∷ 10 ∷ []))
    (rw (ends_with_back e.0 (10 ∷ 13 ∷ 10 ∷ [])))
empty_line z lf e =
    let same : z ++ 10 ∷ [] ≡ e.0 ++ 10 ∷ 10 ∷ [] =
    ap (λ (t : List ℕ). t ++ 10 ∷ []) e.1 ∙ append_assoc e.0 (10 ∷ []) (10 ∷ []) in
    ap ends_with_empty_line same
    ∙ or_left (ends_with nat_eq (e.0 ++ 10 ∷ 10 ∷ []) (10 ∷ 10 ∷ []))
    (ends_with nat_eq (e.0 ++ 10 ∷ 10 ∷ []) (10 ∷ 13 ∷ 10 ∷ []))
    (rw (ends_with_back e.0 (10 ∷ 10 ∷ [])))

section_ends : (z : List ℕ) (fields : List Field) (last : LineEnd) → EndsInFeed z
    → ends_with_empty_line (z ++ print_section fields last) ≡ true
section_ends z fields last e =
    ap ends_with_empty_line (sym (append_assoc z (flat_map print_field fields) (print_end last)))
    ∙ empty_line (z ++ flat_map print_field fields) last (fields_feed z fields e)

-- the request line without its end
abbrev request_line : RequestHead → List ℕ
request_line h = print_blank h.blank ++ h.method ++ 32 ∷ h.target ++ 32 ∷ print_version h.minor

printed_ends : (h : RequestHead) → ends_with_empty_line (print_request h) ≡ true
unfolding print_request
printed_ends h =
    section_ends (request_line h ++ print_end h.line_end) h.fields h.last
    (feed_behind (request_line h) (print_end h.line_end) (end_feed h.line_end))

-- ---- how many lines it has

end_line : (e : LineEnd) → line_feeds (print_end e) ≡ 1
end_line crlf = refl
end_line lf = refl

last_line : (a : List ℕ) (e : LineEnd) → 1 ≤ line_feeds (a ++ print_end e)
last_line a e = omega (arith, line_feeds-append a (print_end e), end_line e)

field_lines : (fields : List Field) → length fields ≤ line_feeds (flat_map print_field fields)
field_lines [] = omega arith
field_lines (f ∷ fields) =
    omega (
      arith,
      field_lines fields,
      last_line (f.name ++ 58 ∷ f.raw) f.end,
      line_feeds-append (print_field f) (flat_map print_field fields),
    )

section_lines : (z : List ℕ) (fields : List Field) (last : LineEnd) → 1 ≤ line_feeds z
    → length fields + 2 ≤ line_feeds (z ++ print_section fields last)
section_lines z fields last one =
    omega (
      arith,
      line_feeds-append z (print_section fields last),
      field_lines fields,
      line_feeds-append (flat_map print_field fields) (print_end last),
      end_line last,
    )

printed_lines : (h : RequestHead) → length h.fields + 2 ≤ line_feeds (print_request h)
unfolding print_request
printed_lines h =
    section_lines (request_line h ++ print_end h.line_end) h.fields h.last (last_line (request_line h) h.line_end)

-- ---- the text of a head

-- a head that a text begins with is all of it
pub head_is_all : (text : List ℕ) (h : RequestHead) (rest : List ℕ) → IsHeadText text
    → ReadsRequest text h rest → ReadsRequest text h []
head_is_all text h rest b reads =
    (reads.0, reads.1 ∙ ap (λ (t : List ℕ). print_request h ++ t) none)
  where
    none : rest ≡ []
    none =
        elim (cases_lt 0 (length rest)) [
          | inl some ↦
              let shorter : length (print_request h) < length text =
              omega (arith, ap length reads.1, length-append (print_request h) rest) in
              let printed : take (length (print_request h)) text ≡ print_request h =
              ap (take (length (print_request h))) reads.1
              ∙ take_at (print_request h) rest (length (print_request h)) refl in
              let open_end : ends_with_empty_line (print_request h) ≡ false =
              ap ends_with_empty_line (sym printed) ∙ b.no_end (length (print_request h)) shorter in
              let wrong : true ≡ false = sym (printed_ends h) ∙ open_end in
              cc
          | inr few ↦ nil_from_length rest (omega arith)
        ]

-- there is room for its fields: where they overflow, it is no head
pub overflow_is_no_head : (text : List ℕ) (room : ℕ) → line_feeds text ≤ room + 2 → RequestOverflows room text
    → IsNoHead text
overflow_is_no_head text room few overflows h reads =
    let many : room < length h.fields =
    overflows [] h [] (reads.0, append-nil text ∙ reads.1) in
    let lines : line_feeds text ≡ line_feeds (print_request h) =
    ap line_feeds (reads.1 ∙ append-nil (print_request h)) in
    absurd (omega (arith, printed_lines h, few))

-- what the parser holds of a text is a head of the grammar, and its summary is the head's
pub parsed_head : (text : List ℕ) (r : Request) (len : ℕ) (method target : List ℕ) (minor : ℕ)
    (result : Result HeadSummary HeadError) → IsHeadText text → HoldsSomeRequest text r len
    → option_copied r.method ≡ Some method → option_copied r.path ≡ Some target → r.version ≡ Some minor
    → SummaryOf method target minor (map header_parts r.headers.now) result → ReadsHead text result
parsed_head text r len method target minor result b holds m t v summary =
    let h = holds.0 in
    let method_is : method ≡ h.method = cc (m, holds.1.method) in
    let target_is : target ≡ h.target = cc (t, holds.1.path) in
    let minor_is : minor ≡ h.minor = cc (v, holds.1.version) in
    of_head_text h (head_is_all text h (drop len text) b holds.1.reads)
    (rw (← method_is, ← target_is, ← minor_is, ← holds.1.fields) summary)
