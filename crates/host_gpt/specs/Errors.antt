-- Which error a failed read gives.
use Rattle.host_io.specs.declared.disk.DiskError.{DiskError}
use Rattle.host_io.specs.declared.disk.DiskError.TheVariants.{Failed as DiskFailed, Oom as DiskOom}
use Rattle.host_gpt.specs.declared.read_error.ReadError.{ReadError}
use Rattle.host_gpt.specs.declared.read_error.ReadError.TheVariants.{Disk as ReadDisk}
use Rattle.host_gpt.specs.declared.read_error.ReadError.TheVariants.{Oom as ReadOom}
use Rattle.host_gpt.specs.declared.table_error.TableError.{TableError}
use Rattle.host_gpt.specs.declared.table_error.TableError.TheVariants.{Disk, Oom}

abbrev pub read_error_of : DiskError → ReadError
read_error_of DiskFailed = ReadDisk
read_error_of DiskOom = ReadOom

abbrev pub table_error_of : ReadError → TableError
table_error_of ReadDisk = Disk
table_error_of ReadOom = Oom
