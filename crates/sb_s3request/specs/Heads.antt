-- The head of a request (RFC 9112, sections 3 and 5).
use Rattle.std.specs.Prelude.{ℕ, ◌≡◌, List, [], ◌∷◌, ◌++◌, length, codes, decimal, Option, Some, None}
use Rattle.hex.specs.Hex.{encode_lower}
use Rattle.sha2.specs.Sha256.{sha256}
use Rattle.sb_world.specs.declared.link.Meta.{Meta}
use Rattle.sb_sign.specs.declared.request.Method.{Method}
use Rattle.sb_sign.specs.declared.request.Method.TheVariants.{Put}
use Rattle.sb_sign.specs.declared.request.Pair.{Pair}
use Rattle.sb_sign.specs.declared.signer.Authorization.{Authorization}
use Rattle.sb_sign.specs.Encoding.{content_md5_of, encoded_path_of, encoded_query_of}
use Rattle.sb_sign.specs.Requests.{method_text}
use Rattle.sb_s3request.specs.Operations.{Asked, pair}
use Rattle.sb_s3request.specs.declared.digests.Digests.{Digests}

-- a carriage return and a line feed, which end a line
abbrev pub line_end : List ℕ
line_end = 13 ∷ 10 ∷ []

-- a query behind its question mark, or nothing
abbrev pub query_text : List Pair → List ℕ
query_text [] = []
query_text (first ∷ more) = codes "?" ++ encoded_query_of (first ∷ more)

-- a request line: the method, the path and the query, each encoded once, and the version
unfoldable pub request_line : Method → List ℕ → List Pair → List ℕ
request_line method path query =
    method_text method ++ codes " " ++ encoded_path_of path ++ query_text query ++ codes " HTTP/1.1" ++ line_end

-- the line of a header
abbrev pub header_line : List ℕ → List ℕ → List ℕ
header_line name value = name ++ codes ": " ++ value ++ line_end

-- the base64 of the MD5 of a body that is put
abbrev pub content_digest : Method → List ℕ → Option (List ℕ)
content_digest Put body = Some (content_md5_of body)
content_digest method body = None

-- these are the digests of the body of a request
pub record AreDigests (method : Method) (body : List ℕ) (digests : Digests) : Type 0 where
  pub length : digests.length ≡ length body
  pub payload : digests.payload ≡ sha256 body
  pub content : digests.content ≡ content_digest method body

-- the lines of a body of so many bytes with this MD5
abbrev pub body_lines : ℕ → List ℕ → List ℕ
body_lines size digest =
    header_line (codes "content-length") (decimal size) ++ header_line (codes "content-md5") digest

-- the lines of a body that is put
abbrev pub content_lines : ℕ → Option (List ℕ) → List ℕ
content_lines size None = []
content_lines size (Some digest) = body_lines size digest

-- bytes in quotation marks
unfoldable pub quoted : List ℕ → List ℕ
quoted bytes = 34 ∷ [] ++ bytes ++ 34 ∷ []

-- the line that asks about an MD5 in hex (RFC 9110, section 13.1.2)
abbrev pub tag_line : List ℕ → List ℕ
tag_line digest = header_line (codes "if-none-match") (quoted (encode_lower digest))

-- the line of a GET that verifies
abbrev pub tag_lines : Option (List ℕ) → List ℕ
tag_lines None = []
tag_lines (Some digest) = tag_line digest

-- the lines that tell these sizes of a disk and of its blocks
abbrev pub meta_lines : Meta → List ℕ
meta_lines meta =
    header_line (codes "x-amz-meta-s3backer-blocksize") (decimal meta.block_size)
    ++ header_line (codes "x-amz-meta-s3backer-filesize") (decimal meta.size)

-- the lines of the sizes, where they are told
abbrev pub size_lines : Option Meta → List ℕ
size_lines None = []
size_lines (Some meta) = meta_lines meta

-- the lines before those of a body: the host, what signs, and that the connection is closed
unfoldable pub first_lines : List ℕ → List ℕ → List ℕ
first_lines host authorization =
    header_line (codes "host") host ++ header_line (codes "authorization") authorization
    ++ header_line (codes "connection") (codes "close")

-- the lines behind those of a body: the MD5 that is asked about, the payload's hash, the date and the sizes
unfoldable pub last_lines : Option (List ℕ) → List ℕ → List ℕ → Option Meta → List ℕ
last_lines verify payload date meta =
    tag_lines verify ++ header_line (codes "x-amz-content-sha256") (encode_lower payload)
    ++ header_line (codes "x-amz-date") date ++ size_lines meta

-- the headers: the host, and the others in byte order of their names
unfoldable pub header_lines : List ℕ → Asked → Authorization → List ℕ
header_lines host asked signed =
    first_lines host signed.header ++ content_lines (length asked.body) (content_digest asked.method asked.body)
    ++ last_lines asked.verify (sha256 asked.body) signed.date asked.meta

-- the head of a request to a host: the request line, the headers, and an empty line
unfoldable pub head_of : List ℕ → List ℕ → Asked → Authorization → List ℕ
head_of host path asked signed =
    request_line asked.method path asked.query ++ header_lines host asked signed ++ line_end

-- this MD5 of a body, as a header
abbrev pub digest_pairs : List ℕ → List Pair
digest_pairs digest = pair (codes "content-md5") digest ∷ []

-- the MD5 of a body that is put, as a header
abbrev pub content_pairs : Option (List ℕ) → List Pair
content_pairs None = []
content_pairs (Some digest) = digest_pairs digest

-- the size of a block, as a header
unfoldable pub block_size_pairs : ℕ → List Pair
block_size_pairs size = pair (codes "x-amz-meta-s3backer-blocksize") (decimal size) ∷ []

-- the size of a disk, as a header
unfoldable pub disk_size_pairs : ℕ → List Pair
disk_size_pairs size = pair (codes "x-amz-meta-s3backer-filesize") (decimal size) ∷ []

-- these sizes, as headers
abbrev pub meta_pairs : Meta → List Pair
meta_pairs meta = block_size_pairs meta.block_size ++ disk_size_pairs meta.size

-- the sizes as headers, where they are told
abbrev pub size_pairs : Option Meta → List Pair
size_pairs None = []
size_pairs (Some meta) = meta_pairs meta

-- the headers that are signed, of this MD5 of a body and these sizes
abbrev pub signed_pairs : List ℕ → Option (List ℕ) → Option Meta → List Pair
signed_pairs host content meta = pair (codes "host") host ∷ (content_pairs content ++ size_pairs meta)

-- the headers that are signed of a request, but for the payload's hash and the date
abbrev pub signed_of : List ℕ → Asked → List Pair
signed_of host asked = signed_pairs host (content_digest asked.method asked.body) asked.meta
