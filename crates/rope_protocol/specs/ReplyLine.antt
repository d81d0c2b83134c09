-- The line of a reply, in UTF-8.
use Rattle.std.specs.Prelude.{ℕ, Bool, false, ◌==◌, ◌||◌, List, [], ◌∷◌, ◌++◌, length, nat_lt, codes, encode_utf8, Option, Some, None, if◌then◌else◌}
use Rattle.std.specs.List.{flat_map}
use Rattle.std.specs.Fmt.{decimal, digits}
use Rattle.std.specs.declared.cmp.Ordering.{Ordering}
use Rattle.std.specs.declared.cmp.Ordering.TheVariants.{Less, Equal, Greater}
use Rattle.std.specs.Str.{chars}
use Rattle.std.specs.String.{string_bytes}
use Rattle.rope_text.specs.ErrorText.{error_text}
use Rattle.rope_text.specs.declared.line_breaks.LineBreaks.{LineBreaks}
use Rattle.rope_text.specs.declared.line_breaks.LineBreaks.TheVariants.{Lf, CrLf, Unicode}
use Rattle.rope_script.specs.declared.script.Reply.{Reply}
use Rattle.rope_script.specs.declared.script.Reply.TheVariants.{Done, Made, NoRope, NoSlice, Absent, Refused, Lens, Number, Byte, Char, Text, Texts, Breaks, Chunk, Walk, Order, Position}
use Rattle.rope_script.specs.declared.script.Item.{Item}
use Rattle.rope_script.specs.declared.script.Item.TheVariants as item

-- whether a reply writes the character by its number: those below U+0020, DEL, NEL, LS and PS
abbrev pub is_control : ℕ → Bool
is_control c = nat_lt c 0x20 || c == 0x7f || c == 0x85 || c == 0x2028 || c == 0x2029

-- a character of a quoted text: LF, CR, a backslash and a quotation mark as a backslash and a
-- letter or sign, a control as its number, and any other as itself
abbrev pub quoted_char : ℕ → List ℕ
quoted_char c =
    if c == 10 then codes "\\n"
    else if c == 13 then codes "\\r"
    else if c == 92 then codes "\\\\"
    else if c == 34 then codes "\\\""
    else if is_control c then codes "\\u{" ++ (digits 16 false c ++ codes "}")
    else encode_utf8 c

-- a text between quotation marks
abbrev pub quoted : List ℕ → List ℕ
quoted text = codes "\"" ++ (flat_map quoted_char text ++ codes "\"")

-- the word that names a set of line breaks
abbrev pub breaks_word : LineBreaks → List ℕ
breaks_word Lf = codes "lf"
breaks_word CrLf = codes "crlf"
breaks_word Unicode = codes "unicode"

-- the word for an order
abbrev pub order_word : Ordering → List ℕ
order_word Less = codes "less"
order_word Equal = codes "equal"
order_word Greater = codes "greater"

-- the word for the result of a cursor's step
abbrev pub item_words : Option Item → List ℕ
item_words None = codes "-"
item_words (Some (item.Byte b)) = decimal b
item_words (Some (item.Char c)) = quoted (c ∷ [])
item_words (Some (item.Text s)) = quoted (chars (string_bytes s))

-- the words of a reply
abbrev pub reply_words : Reply → List ℕ
reply_words Done = codes "ok"
reply_words (Made n) = codes "rope " ++ decimal n
reply_words NoRope = codes "no rope"
reply_words NoSlice = codes "no slice"
reply_words Absent = codes "none"
reply_words (Refused e) = codes "error: " ++ error_text e
reply_words (Lens bytes characters lines units) =
    decimal bytes ++ (codes " "
    ++ (decimal characters ++ (codes " " ++ (decimal lines ++ (codes " " ++ decimal units)))))
reply_words (Number n) = decimal n
reply_words (Byte b) = decimal b
reply_words (Char c) = quoted (c ∷ [])
reply_words (Text s) = quoted (chars (string_bytes s))
reply_words (Texts v) = decimal (length v.items)
    ++ flat_map (λ s. codes " " ++ quoted (chars (string_bytes s))) v.items
reply_words (Breaks breaks) = breaks_word breaks
reply_words (Chunk s bytes characters count) =
    quoted (chars (string_bytes s))
    ++ (codes " " ++ (decimal bytes
    ++ (codes " " ++ (decimal characters ++ (codes " " ++ decimal count)))))
reply_words (Walk v) = decimal (length v.items)
    ++ flat_map (λ found. codes " " ++ item_words found) v.items
reply_words (Order order) = order_word order
reply_words (Position line column) = decimal line ++ (codes " " ++ decimal column)

-- the line of a reply, with its LF
abbrev pub reply_line : Reply → List ℕ
reply_line reply = reply_words reply ++ 10 ∷ []

-- the lines of replies, in order
abbrev pub reply_lines : List Reply → List ℕ
reply_lines replies = flat_map reply_line replies
