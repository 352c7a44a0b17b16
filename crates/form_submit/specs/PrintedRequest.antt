-- A request as it is printed.
use Rattle.std.specs.Prelude.{◌≡◌, ℕ, ◌-◌, ◌^◌, ◌<◌, List, [], ◌∷◌, ◌++◌, length, codes, flat_map, Option, IfSome, ⊤, if◌then◌else◌, unwrap_or, true, IsSome, All}
use Rattle.std.specs.Fmt.{decimal}
use Rattle.std.specs.Int.{div_ceil}
use Rattle.std.specs.List.{concat, AllZip}
use Rattle.std.specs.Simd.{first_chunks}
use Rattle.form_ports.specs.Shelf.{IsThere, told, HasTold}
use Rattle.form_submit.specs.declared.request.Piece.{Piece}
use Rattle.form_submit.specs.declared.request.Piece.TheVariants as piece
use Rattle.form_submit.specs.declared.request.Request.{Request}

-- ---- the printed lines

-- the most bytes of a printed piece
abbrev pub piece_size : ℕ
piece_size = 1024

-- the body in pieces of so many bytes, the last one shorter where needed, and none for an empty body
unfoldable pub pieces_of : List ℕ → List (List ℕ)
pieces_of body = first_chunks piece_size (div_ceil (length body) piece_size) body

-- a piece, printed: how many bytes it has, and these bytes
abbrev pub data_lines : List ℕ → List ℕ
data_lines bytes = codes "data " ++ (decimal (length bytes) ++ (codes "\n" ++ (bytes ++ codes "\n")))

-- the pieces of a body, printed
unfoldable pub printed_data : List ℕ → List ℕ
printed_data body = flat_map data_lines (pieces_of body)

-- a body, printed
unfoldable pub printed_body : List ℕ → List ℕ
printed_body body = printed_data body ++ codes "end\n"

-- the line of a request that sends no body
abbrev pub get_head : List ℕ → List ℕ
get_head url = codes "request GET " ++ (url ++ codes "\n")

-- the lines before a body
abbrev pub post_head : List ℕ → List ℕ → List ℕ
post_head url kind = codes "request POST " ++ (url ++ (codes "\ntype " ++ (kind ++ codes "\n")))

-- a request whose body has these bytes, printed; only a POST request's body is sent
unfoldable pub printed_request : Request → List ℕ → List ℕ
printed_request request body =
    if request.post then post_head request.url (unwrap_or request.kind []) ++ printed_body body else get_head request.url

-- ---- the bytes of a body

-- these are the bytes of a piece of the request's body: of a file those that it tells, and as many as its size
abbrev pub IsPart : List (Option (Option (List ℕ))) → Piece → List ℕ → Type 0
IsPart contents (piece.Bytes bytes) part = part ≡ bytes
IsPart contents (piece.File number size) part = (length part ≡ size) × HasTold (told contents number) part

-- the bytes of a body, one piece after the other
pub record IsBody (contents : List (Option (Option (List ℕ)))) (pieces : List Piece) (body : List ℕ) : Type 0 where
  pub parts : List (List ℕ)
  pub each : AllZip (IsPart contents) pieces parts
  pub whole : body ≡ concat parts

-- ---- the files of a body

-- the number of the file of a piece
abbrev pub file_number : Piece → List ℕ
file_number (piece.Bytes bytes) = []
file_number (piece.File number size) = number ∷ []

-- and its size
abbrev pub file_size : Piece → List ℕ
file_size (piece.Bytes bytes) = []
file_size (piece.File number size) = size ∷ []

-- the numbers of the files of a body
unfoldable pub file_numbers : List Piece → List ℕ
file_numbers pieces = flat_map file_number pieces

-- and their sizes
unfoldable pub file_sizes : List Piece → List ℕ
file_sizes pieces = flat_map file_size pieces

-- the file of a piece is there, and it has the piece's size where it tells its content
abbrev pub IsReady : List (Option (Option (List ℕ))) → Piece → Type 0
IsReady contents (piece.Bytes bytes) = ⊤
IsReady contents (piece.File number size) =
    IsThere contents number × (size < 2 ^ 64 - 1) × IfSome (told contents number) (λ all. length all ≡ size)

-- a request that can be written: a POST request has a kind, and the files of its pieces are there with their sizes
pub record IsSendable (contents : List (Option (Option (List ℕ)))) (request : Request) : Type 0 where
  pub kind : request.post ≡ true → IsSome request.kind
  pub ready : All (λ one. IsReady contents one) request.body
