-- The bytes of replies (RFC 9112, sections 3 to 6 and 9.6; RFC 9110, section 15).
use Rattle.std.specs.Prelude.{◌≡◌, ℕ, ◌-◌, ◌⊎◌, Bool, List, ◌++◌, length, if◌then◌else◌, ◌==◌, codes, decimal, replicate}
use Rattle.http.specs.StatusCode.{code_digits}
use Rattle.http_front.specs.declared.fault.HttpFault.{HttpFault}
use Rattle.http_front.specs.declared.fault.HttpFault.TheVariants.{BadHead, TooLarge, Coding, Method, Target}

-- a reply has one of three statuses
abbrev pub IsReplyStatus : ℕ → Type 0
IsReplyStatus status = (status ≡ 200) ⊎ (status ≡ 400) ⊎ (status ≡ 500)

-- the status that answers a fault
abbrev pub status_of : HttpFault → ℕ
status_of BadHead = 400
status_of TooLarge = 413
status_of Coding = 501
status_of Method = 405
status_of Target = 404

-- the statuses that are written
abbrev pub IsAnswered : ℕ → Type 0
IsAnswered status =
    (status ≡ 200) ⊎ (status ≡ 400) ⊎ (status ≡ 500) ⊎ (status ≡ 404) ⊎ (status ≡ 405) ⊎ (status ≡ 413) ⊎ (status ≡ 501)

-- their reason phrases
unfoldable pub phrase_of : ℕ → List ℕ
phrase_of status =
    if status == 200 then codes "OK" else (
    if status == 400 then codes "Bad Request" else (
    if status == 404 then codes "Not Found" else (
    if status == 405 then codes "Method Not Allowed" else (
    if status == 413 then codes "Payload Too Large" else (
    if status == 501 then codes "Not Implemented" else
    codes "Internal Server Error")))))

-- HTTP-version SP status-code SP reason-phrase
unfoldable pub status_line : ℕ → List ℕ
status_line status = codes "HTTP/1.1 " ++ code_digits status ++ codes " " ++ phrase_of status ++ codes "\r\n"

-- the kind of each reply's body, and the name of the next line
unfoldable pub before_length : List ℕ
before_length = codes "Content-Type: application/x-amz-json-1.0\r\nContent-Length: "

-- the line's end, and the name of the next line
unfoldable pub before_count : List ℕ
before_count = codes "\r\nx-amzn-RequestId: "

-- the line's end, the line that says that the connection ends, where it does, and the empty line
unfoldable pub head_end : Bool → List ℕ
head_end last = if last then codes "\r\nConnection: close\r\n\r\n" else codes "\r\n\r\n"

-- a number's digits with zeros before them, 32 in all
abbrev pub digits_32 : ℕ → List ℕ
digits_32 count = replicate (32 - length (decimal count)) 48 ++ decimal count

-- the head of a reply
abbrev pub reply_head : ℕ → ℕ → ℕ → Bool → List ℕ
reply_head status size count last =
    status_line status ++ before_length ++ decimal size ++ before_count ++ digits_32 count ++ head_end last

-- the bytes of a reply
abbrev pub bytes_of : ℕ → List ℕ → ℕ → Bool → List ℕ
bytes_of status body count last = reply_head status (length body) count last ++ body

-- what follows the status line of a refusal
unfoldable pub refusal_end : List ℕ
refusal_end = codes "Content-Length: 0\r\nConnection: close\r\n\r\n"

-- the bytes of a refusal
abbrev pub refusal : HttpFault → List ℕ
refusal fault = status_line (status_of fault) ++ refusal_end
