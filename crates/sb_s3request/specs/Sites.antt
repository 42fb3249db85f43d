-- Where a bucket is, and how requests name it and its objects.
use Rattle.std.specs.Prelude.{ℕ, ◌==◌, if◌then◌else◌, List, [], ◌++◌, codes, decimal}
use Rattle.sb_s3request.specs.declared.site.Site.{Site}

-- what stands before the host where the bucket is named there: the bucket and a dot
abbrev pub bucket_in_host : Site → List ℕ
bucket_in_host site = if site.vhost then site.bucket ++ codes "." else []

-- what stands behind the host: a colon and the port, unless that is the one of HTTP, 80 (RFC 9110, section 4.2.1)
abbrev pub port_in_host : Site → List ℕ
port_in_host site = if site.port == 80 then [] else codes ":" ++ decimal site.port

-- the value of the header host
abbrev pub host_of : Site → List ℕ
host_of site = bucket_in_host site ++ site.host ++ port_in_host site

-- what stands before a name in a path: a slash, and unless the host names it the bucket and a slash
abbrev pub bucket_in_path : Site → List ℕ
bucket_in_path site = if site.vhost then codes "/" else codes "/" ++ site.bucket ++ codes "/"

-- the path of an object before it is encoded, or with no name that of the bucket
abbrev pub path_of : Site → List ℕ → List ℕ
path_of site name = bucket_in_path site ++ name
