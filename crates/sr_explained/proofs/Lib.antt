mod FirstClient
